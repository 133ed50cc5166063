use Rattle.std.proofs.Common.{◌≡◌, map, take}
use Rattle.text_table.specs.Texts.{texts_of}
use Rattle.headroom_tables.specs.ZoneTables.{zone_then_row}
use Rattle.headroom_tables.proofs.zones.add_zones_then.Given as goal

abbrev pub invariant-loop-zone : goal.invariant-loop-zone
invariant-loop-zone l =
    texts_of l.rows.items ≡ map zone_then_row (take l.zone-index l.zones)
