use Rattle.std.proofs.Common.{◌∙◌, Bool, false, map, ap, sym, is_some}
use Rattle.std.proofs.lemmas.List.Folds.{list_all-map}
use Rattle.std.specs.List.{list_all}
use Rattle.std.specs.Option.{option_map_or}
use Rattle.serde_json.specs.Data.{Data}
use Rattle.serde_json.specs.Find.{as_str}
use Rattle.serde_json.specs.View.{view}
use Rattle.scenario_lines.specs.Kinds.{items_in}
use Rattle.scenario_lines.proofs.Among.{items_in-items_of}
use Rattle.scenario_lines.proofs.kind.are_texts.Goals as goal

pub returns-in-Some : goal.returns-in-Some
returns-in-Some c =
    let is_text : Data → Bool = λ d. is_some (as_str d) in
    let values = c.in-Some.items.now.items in
    c.all_texts.ensures ∙ ap (list_all (λ value. is_text (view value))) c.as_slice.ensures.value
    ∙ sym (list_all-map is_text view values) ∙ ap (list_all is_text) (sym (items_in-items_of (map view values)))
    ∙ ap (λ ds. option_map_or (λ es. list_all is_text (items_in es)) ds false) c.in-Some.ensures
