use Rattle.std.proofs.Common.{◌≡◌, ◌++◌, take}
use Rattle.std.specs.List.{flat_map}
use Rattle.headroom_print.specs.TagLines.{tag_line}
use Rattle.headroom_print.proofs.line_kinds.tag.add_tags.Given as goal

abbrev pub invariant-loop-tag : goal.invariant-loop-tag
invariant-loop-tag l =
    l.text.items ≡ l.fn.text.items ++ flat_map (tag_line l.line) (take l.tag-index l.tags)
