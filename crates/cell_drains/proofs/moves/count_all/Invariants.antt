use Rattle.std.proofs.Common.{◌≡◌, take}
use Rattle.cell_records.specs.declared.job_name.JobName.{JobName}
use Rattle.cell_drains.specs.Moves.{times_by, times_moved}
use Rattle.cell_drains.proofs.moves.count_all.Given as goal

abbrev pub invariant-loop-job : goal.invariant-loop-job
invariant-loop-job l = (job : JobName) → times_by l.times job ≡ times_moved (take l.job-index l.jobs) job
