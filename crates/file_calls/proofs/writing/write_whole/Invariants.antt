use Rattle.std.proofs.Common.{◌≡◌, ◌-◌, ◌<◌, ◌≤◌, ◌^◌, true, length}
use Rattle.file_calls.specs.Files.{held_by}
use Rattle.file_calls.specs.Honest.{is_honest}
use Rattle.file_calls.specs.Made.{AddsCalls, writes}
use Rattle.file_calls.proofs.WriteLemmas.{half_written}
use Rattle.file_calls.proofs.writing.write_whole.Given as goal

abbrev pub invariant-loop-done : goal.invariant-loop-done
invariant-loop-done g l =
    let first = g.C.Calls.first in
    record {
      bound : l.done ≤ length l.bytes;
      small : 0 < l.done → l.at < 2 ^ 63;
      adds : AddsCalls (writes l.area) (g.C.Calls.history l.fn.calls) (g.C.Calls.history l.calls);
      here : is_honest first (g.C.Calls.history l.calls) ≡ true
          → held_by first l.area (g.C.Calls.history l.calls)
          ≡ half_written (held_by first l.area (g.C.Calls.history l.fn.calls)) l.at l.done l.bytes;
    }

abbrev pub decreases-loop-done : goal.decreases-loop-done
decreases-loop-done g l = length l.bytes - l.done
