use Rattle.std.proofs.Common.{◌≡◌, ◌-◌, ◌≤◌, true, length, take, drop}
use Rattle.file_calls.specs.Files.{held_by}
use Rattle.file_calls.specs.Honest.{is_honest}
use Rattle.file_calls.specs.Made.{AddsCalls, reads}
use Rattle.file_calls.proofs.reading.read_whole.Given as goal

abbrev pub invariant-loop-count : goal.invariant-loop-count
invariant-loop-count g l =
    let bytes = (held_by g.C.Calls.first l.area (g.C.Calls.history l.initial.calls)).reads in
    record {
      bound : l.count ≤ length l.room;
      adds : AddsCalls (reads l.area) (g.C.Calls.history l.initial.calls) (g.C.Calls.history l.calls);
      within : is_honest g.C.Calls.first (g.C.Calls.history l.calls) ≡ true → l.count ≤ length bytes - l.at;
      front : is_honest g.C.Calls.first (g.C.Calls.history l.calls) ≡ true
          → take l.count l.room ≡ take l.count (drop l.at bytes);
    }

abbrev pub decreases-loop-count : goal.decreases-loop-count
decreases-loop-count g l = length l.initial.room - l.count
