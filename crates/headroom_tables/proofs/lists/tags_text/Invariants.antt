use Rattle.std.proofs.Common.{◌≡◌, map, take}
use Rattle.text_table.specs.Texts.{entries_of}
use Rattle.headroom_tables.specs.Entries.{tag_text}
use Rattle.headroom_tables.proofs.lists.tags_text.Given as goal

abbrev pub invariant-loop-tag : goal.invariant-loop-tag
invariant-loop-tag l =
    entries_of l.parts.items ≡ map tag_text (take l.tag-index l.tags)
