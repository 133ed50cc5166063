use Rattle.std.proofs.Common.{◌≡◌}
use Rattle.file_calls.specs.Files.{held_by}
use Rattle.file_calls.specs.Made.{AddsCalls, writes}
use Rattle.file_calls.proofs.writing.write_again.Given as goal

abbrev pub invariant-loop : goal.invariant-loop
invariant-loop g l =
    let first = g.C.Calls.first in
    record {
      adds : AddsCalls (writes l.area) (g.C.Calls.history l.initial.calls) (g.C.Calls.history l.calls);
      same : held_by first l.area (g.C.Calls.history l.calls)
          ≡ held_by first l.area (g.C.Calls.history l.initial.calls);
    }
