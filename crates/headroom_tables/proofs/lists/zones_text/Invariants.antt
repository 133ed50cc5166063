use Rattle.std.proofs.Common.{◌≡◌, map, take}
use Rattle.text_table.specs.Texts.{entries_of}
use Rattle.headroom_tables.specs.Entries.{zone_part}
use Rattle.headroom_tables.proofs.lists.zones_text.Given as goal

abbrev pub invariant-loop-zone : goal.invariant-loop-zone
invariant-loop-zone l =
    entries_of l.parts.items ≡ map zone_part (take l.zone-index l.zones)
