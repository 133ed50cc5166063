use Rattle.std.proofs.Common.{◌≡◌, take}
use Rattle.std.specs.List.{flat_map}
use Rattle.text_table.specs.Texts.{entries_of}
use Rattle.headroom_print.specs.Words.{counts_of}
use Rattle.headroom_tables.specs.Entries.{lack_parts}
use Rattle.headroom_tables.proofs.lists.counts_text.Given as goal

abbrev pub invariant-loop-lack : goal.invariant-loop-lack
invariant-loop-lack l =
    entries_of l.parts.items ≡ flat_map lack_parts (counts_of (take l.lack-index l.lacks))
