use Rattle.std.proofs.Common.{◌≡◌, ◌++◌, take}
use Rattle.std.specs.List.{filter_map}
use Rattle.converge_round.specs.Jobs.{row_job}
use Rattle.converge_round.proofs.jobs.add_instances.Given as goal

abbrev pub invariant-loop-row : goal.invariant-loop-row
invariant-loop-row l = l.jobs ≡ l.fn.jobs ++ filter_map (row_job l.rows) (take l.row-index l.actual)
