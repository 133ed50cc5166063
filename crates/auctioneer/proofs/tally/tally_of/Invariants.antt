use Rattle.std.proofs.Common.{◌≡◌, ℕ, List, take}
use Rattle.cell_records.specs.declared.job_name.JobName.{JobName}
use Rattle.auctioneer.specs.Tallies.{count_at, tallied}
use Rattle.auctioneer.proofs.tally.tally_of.Given as goal

abbrev pub invariant-loop-stand : goal.invariant-loop-stand
invariant-loop-stand l = (job : JobName) (name : List ℕ)
    → tallied l.tally job name ≡ count_at l.place (take l.stand-index l.stands) job name
