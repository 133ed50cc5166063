use Rattle.std.proofs.Common.{◌≡◌, [], arith}
use Rattle.std.proofs.lemmas.Grind.{common_steps}
use Rattle.text_table.specs.Texts.{texts_of}
use Rattle.headroom_tables.specs.NoRoom.{no_room_columns, no_room_rows}
use Rattle.headroom_tables.proofs.Told.{rows_told}
use Rattle.headroom_tables.proofs.no_room.add_no_room.Goals as goal

pub returns : goal.returns
unfolding no_room_columns
returns c =
    let same : texts_of c.loop-at.rows.items ≡ no_room_rows c.args.jobs.now [] c.args.jobs.now =
    grind (arith, common_steps) in
    rows_told c.add_table.result c.args.text.now.items c.add_table.new.text.items no_room_columns _ _ same
    c.add_table.ensures
