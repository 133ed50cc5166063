use Rattle.std.proofs.Common.{◌≡◌, [], ◌++◌, ℕ, List, take}
use Rattle.std.specs.List.{filter_map}
use Rattle.converge_round.specs.CellJobs.{jobs_at}
use Rattle.converge_round.specs.Places.{job_on}
use Rattle.converge_round.proofs.cell_jobs.CellJobs.of.Given as goal

abbrev pub invariant-loop-placement : goal.invariant-loop-placement
invariant-loop-placement l =
    (cell : List ℕ) → jobs_at l.kept cell ≡ [] ++ filter_map (job_on l.rows cell) (take l.placement-index l.placements)
