use Rattle.std.proofs.Common.{◌≡◌, [], ◌++◌, take}
use Rattle.std.specs.List.{filter_map}
use Rattle.converge_round.specs.Places.{fail_of}
use Rattle.converge_round.proofs.placing.fails_of.Given as goal

abbrev pub invariant-loop-job : goal.invariant-loop-job
invariant-loop-job l = l.fails ≡ [] ++ filter_map (fail_of l.rows l.now) (take l.job-index l.jobs)
