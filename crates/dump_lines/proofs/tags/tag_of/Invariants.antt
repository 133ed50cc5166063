use Rattle.std.proofs.Common.{◌≡◌, None, Ok, drop, map}
use Rattle.serde_json.specs.View.{view}
use Rattle.dump_lines.specs.Tags.{tags_from}
use Rattle.dump_lines.proofs.tags.tag_of.Given as goal

abbrev pub invariant-loop-item : goal.invariant-loop-item
invariant-loop-item l = tags_from l.so_far (map view (drop l.item-index l.items))
    ≡ tags_from (Ok None) (map view l.items)
