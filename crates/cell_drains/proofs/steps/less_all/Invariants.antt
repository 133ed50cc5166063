use Rattle.std.proofs.Common.{◌≡◌, fold, take}
use Rattle.auctioneer.specs.Stands.{less}
use Rattle.cell_drains.proofs.steps.less_all.Given as goal

abbrev pub invariant-loop-job : goal.invariant-loop-job
invariant-loop-job l = l.left ≡ fold less l.fn.free (take l.job-index l.jobs)
