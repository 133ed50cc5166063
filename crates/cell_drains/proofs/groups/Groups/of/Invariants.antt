use Rattle.std.proofs.Common.{◌≡◌, ℕ, List, ◌++◌, drop}
use Rattle.cell_drains.specs.Changes.{jobs_by}
use Rattle.cell_drains.specs.Steps.{jobs_on}
use Rattle.cell_drains.proofs.groups.Groups.of.Given as goal

abbrev pub invariant-loop-at : goal.invariant-loop-at
invariant-loop-at l =
    (cell : List ℕ) → jobs_by l.groups cell ++ jobs_on cell (drop l.at l.jobs) (drop l.at l.placements)
    ≡ jobs_on cell l.jobs l.placements
