use Rattle.std.proofs.Common.{◌≡◌, [], ◌++◌, drop, take}
use Rattle.text_table.specs.Texts.{texts_of}
use Rattle.headroom_tables.specs.NoRoom.{no_room_rows}
use Rattle.headroom_tables.proofs.no_room.add_no_room.Given as goal

abbrev pub invariant-loop-at : goal.invariant-loop-at
invariant-loop-at l =
    texts_of l.rows.items ++ no_room_rows l.jobs (take l.at l.jobs) (drop l.at l.jobs)
    ≡ no_room_rows l.jobs [] l.jobs
