use Rattle.std.proofs.Common.{◌≡◌, map, arith}
use Rattle.std.proofs.lemmas.Grind.{common_steps}
use Rattle.text_table.specs.Texts.{texts_of}
use Rattle.headroom_tables.specs.ZoneTables.{zone_now_columns, zone_now_row}
use Rattle.headroom_tables.proofs.Told.{rows_told}
use Rattle.headroom_tables.proofs.zones.add_zones_now.Goals as goal

pub returns : goal.returns
unfolding zone_now_columns
returns c =
    let same : texts_of c.loop-zone.rows.items ≡ map zone_now_row c.args.zones.now = grind (arith, common_steps) in
    rows_told c.add_table.result c.args.text.now.items c.add_table.new.text.items zone_now_columns _ _ same
    c.add_table.ensures
