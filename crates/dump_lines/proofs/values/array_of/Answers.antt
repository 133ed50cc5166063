use Rattle.std.proofs.Common.{◌∙◌, Some, ap, map, option_map, sym}
use Rattle.serde_json.specs.View.{view}
use Rattle.dump_lines.specs.Values.{items_in}
use Rattle.dump_lines.proofs.Lists.{items_in-items_of}
use Rattle.dump_lines.proofs.values.array_of.Goals as goal

pub returns-in-Some : goal.returns-in-Some
returns-in-Some c =
    let values = c.in-Some.items.now.items in
    ap (λ vs. Some (map view vs)) c.as_slice.ensures.value ∙ ap Some (sym (items_in-items_of (map view values)))
    ∙ ap (option_map items_in) c.in-Some.ensures
