-- The pass stays a pass of its desk.
use Rattle.ticket_desk.specs.Passes.{IsSamePass}
use Rattle.ticket_desk.proofs.tests.runs.run.Given as goal

abbrev pub invariant-loop-value : goal.invariant-loop-value
invariant-loop-value g l = IsSamePass l.fn.pass l.pass
