-- A board in memory after one item more, and calls that add nothing.
use Rattle.std.proofs.Common.{◌≡◌, ℕ, List, [], ◌∷◌, ◌++◌, Option, Some, sym, ap, ◌∙◌}
use Rattle.std.proofs.lemmas.List.{append-nil}
use Rattle.bbs_model.specs.PortView.{PortView, after_own}
use Rattle.bbs_model.specs.Replay.{replay_log}
use Rattle.bbs_model.specs.Step.{rows_after, events_of}
use Rattle.bbs_model.specs.Told.{told_in}
use Rattle.bbs_model.specs.Valid.{IsValid}
use Rattle.bbs_model.specs.declared.command.Command.{Command}
use Rattle.bbs_model.specs.declared.event.Events.{Events}
use Rattle.bbs_model.specs.declared.item.Item.{Item}
use Rattle.bbs_model.specs.declared.item.Item.TheVariants.{Done}
use Rattle.bbs_model.specs.declared.rows.Rows.{Rows}
use Rattle.bbs_laws.proofs.Public.{replay_log-append, told_in-one_more}
use Rattle.plain_step.specs.Plain.{IsPlain}

pub plain_more : (base rows new : Rows) (log after : List Item) (told told_after : List (Option Events)) (by : ℕ)
    (c : Command) (events : Events)
    → IsPlain base rows log told → new ≡ rows_after rows c → IsValid new → Some events ≡ events_of rows c
    → after ≡ log ++ Done by c ∷ [] → told_after ≡ told ++ Some events ∷ [] → IsPlain base new after told_after
plain_more base rows new log after told told_after by c events p new_is valid events_are after_is told_is = record {
  replayed = new_is ∙ ap (λ (r : Rows). rows_after r c) p.replayed ∙ sym
      (replay_log-append base log (Done by c ∷ [])) ∙ ap (replay_log base) (sym after_is);
  valid = valid;
  told_is = told_is ∙ ap (λ (ts : List (Option Events)). ts ++ Some events ∷ []) p.told_is
      ∙ ap (λ (e : Option Events). told_in base log ++ e ∷ [])
      (events_are ∙ ap (λ (r : Rows). events_of r c) p.replayed)
      ∙ sym (told_in-one_more base log (Done by c)) ∙ ap (told_in base) (sym after_is);
}

pub own_nothing : (v : PortView) → v ≡ after_own v []
own_nothing v =
    ap (λ (xs : List Item). record v { seen = xs }) (sym (append-nil v.seen))
    ∙ ap (λ (xs : List Item). record v { seen = v.seen ++ []; mine = xs }) (sym (append-nil v.mine))
