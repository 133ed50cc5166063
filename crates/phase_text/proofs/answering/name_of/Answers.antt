use Rattle.std.proofs.Common.{◌-◌, length, [], Option, refl, sym, ap, ◌∙◌, arith}
use Rattle.std.specs.Option.{option_map_or}
use Rattle.std.proofs.lemmas.Option.{slice_get_read}
use Rattle.scenario_lines.specs.declared.actor.Actor.{Actor}
use Rattle.phase_text.proofs.answering.name_of.Goals as goal

pub returns : goal.returns
returns c =
    ap (λ (b : Actor). b.name) (sym c.index-actors-at.is)
    ∙ ap (λ (o : Option Actor). option_map_or (λ (b : Actor). b.name) o [])
    (sym (slice_get_read c.args.actors.now (length c.args.actors.now) (c.args.number - 1) c.index-actors-at.result refl
    (omega arith) c.index-actors-at.is))
