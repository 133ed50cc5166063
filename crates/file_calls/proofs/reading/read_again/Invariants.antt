use Rattle.file_calls.specs.Made.{AddsCalls, reads}
use Rattle.file_calls.proofs.reading.read_again.Given as goal

abbrev pub invariant-loop : goal.invariant-loop
invariant-loop g l = AddsCalls (reads l.area) (g.C.Calls.history l.initial.calls) (g.C.Calls.history l.calls)
