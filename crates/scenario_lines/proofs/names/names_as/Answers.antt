use Rattle.std.proofs.Common.{◌∙◌, map, ap, sym, subst}
use Rattle.serde_json.specs.View.{view}
use Rattle.scenario_lines.specs.Flaws.{◌>>=◌, GivesContent, or_shape}
use Rattle.scenario_lines.specs.Kinds.{items_in}
use Rattle.scenario_lines.specs.Names.{names_as, names_said}
use Rattle.scenario_lines.proofs.Among.{items_in-items_of}
use Rattle.scenario_lines.proofs.names.names_as.Goals as goal

pub returns-in-Some : goal.returns-in-Some
unfolding names_as
returns-in-Some c =
    let values = c.in-Some.items.now.items in
    let listed = ap (λ vs. names_said (map view vs)) c.as_slice.ensures.value ∙ ap names_said
    (sym (items_in-items_of (map view values))) in
    let found = ap (λ ds. or_shape ds >>= λ es. names_said (items_in es)) c.in-Some.ensures in
    subst (GivesContent (λ names. names) c.names_of.result) (listed ∙ found) c.names_of.ensures
