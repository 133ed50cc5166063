use Rattle.std.proofs.Common.{◌≡◌, map, take}
use Rattle.text_table.specs.Texts.{entries_of}
use Rattle.headroom_tables.specs.Written.{entry_text}
use Rattle.headroom_tables.proofs.layout.texts.Given as goal

abbrev pub invariant-loop-entry : goal.invariant-loop-entry
invariant-loop-entry l =
    entries_of l.texts.items ≡ map entry_text (take l.entry-index l.entries)
