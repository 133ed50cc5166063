use Rattle.std.proofs.Common.{◌≡◌, map, take}
use Rattle.text_table.specs.Texts.{texts_of}
use Rattle.headroom_tables.specs.TagTable.{tag_row}
use Rattle.headroom_tables.proofs.tags.add_tags.Given as goal

abbrev pub invariant-loop-tag : goal.invariant-loop-tag
invariant-loop-tag l =
    texts_of l.rows.items ≡ map tag_row (take l.tag-index l.tags)
