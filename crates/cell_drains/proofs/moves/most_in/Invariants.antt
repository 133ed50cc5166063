use Rattle.std.proofs.Common.{◌≡◌, fold, max, take}
use Rattle.cell_drains.specs.Moves.{times_by}
use Rattle.cell_drains.proofs.moves.most_in.Given as goal

abbrev pub invariant-loop-job : goal.invariant-loop-job
invariant-loop-job l = l.most ≡ fold (λ m job. max m (times_by l.times job)) 0 (take l.job-index l.jobs)
