use Rattle.std.proofs.Common.{◌≡◌, take}
use Rattle.text_table.specs.Texts.{entries_of}
use Rattle.headroom_tables.proofs.lists.names_text.Given as goal

abbrev pub invariant-loop-name : goal.invariant-loop-name
invariant-loop-name l =
    entries_of l.parts.items ≡ take l.name-index l.names
