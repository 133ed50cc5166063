use Rattle.std.proofs.Common.{◌≡◌, map, arith}
use Rattle.std.proofs.lemmas.Grind.{common_steps}
use Rattle.text_table.specs.Texts.{texts_of}
use Rattle.headroom_tables.specs.ZoneTables.{zone_then_columns, zone_then_row}
use Rattle.headroom_tables.proofs.Told.{rows_told}
use Rattle.headroom_tables.proofs.zones.add_zones_then.Goals as goal

pub returns : goal.returns
unfolding zone_then_columns
returns c =
    let same : texts_of c.loop-zone.rows.items ≡ map zone_then_row c.args.zones.now = grind (arith, common_steps) in
    rows_told c.add_table.result c.args.text.now.items c.add_table.new.text.items zone_then_columns _ _ same
    c.add_table.ensures
