-- What is gone from the rest is in the sink, and no fault was counted.
use Rattle.std.proofs.Common.{◌≡◌, List, ℕ, ◌++◌, length, false}
use Rattle.std.specs.Io.KnownBytes.{Appends}
use Rattle.byte_ports.specs.Cause.{HasCause}
use Rattle.byte_ports.proofs.writing.write_whole.Given as goal

abbrev pub invariant-loop-rest : goal.invariant-loop-rest
invariant-loop-rest g l =
    (done : List ℕ) × (l.initial.rest ≡ done ++ l.rest)
    × Appends (g.K.Sink.held l.initial.sink) (g.K.Sink.held l.sink) done
    × HasCause false (g.K.Sink.faults l.initial.sink) (g.K.Sink.faults l.sink)

abbrev pub decreases-loop-rest : goal.decreases-loop-rest
decreases-loop-rest g l = length l.rest
