use Rattle.std.proofs.Common.{◌≡◌, take}
use Rattle.cell_drains.specs.Drains.{worst_of}
use Rattle.cell_drains.proofs.counts.worst_of.Given as goal

abbrev pub invariant-loop-step : goal.invariant-loop-step
invariant-loop-step l = l.worst ≡ worst_of (take l.step-index l.steps)
