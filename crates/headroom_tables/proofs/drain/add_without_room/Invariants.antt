use Rattle.std.proofs.Common.{◌≡◌, take}
use Rattle.headroom_tables.specs.DrainTables.{all_without_room}
use Rattle.headroom_tables.proofs.drain.add_without_room.Given as goal

abbrev pub invariant-loop-step : goal.invariant-loop-step
invariant-loop-step l =
    l.jobs.items ≡ all_without_room (take l.step-index l.steps)
