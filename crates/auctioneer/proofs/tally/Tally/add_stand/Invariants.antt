use Rattle.std.proofs.Common.{◌≡◌, ℕ, ◌+◌, List}
use Rattle.cell_records.specs.declared.job_name.JobName.{JobName}
use Rattle.auctioneer.specs.Tallies.{tallied}
use Rattle.auctioneer.proofs.Counts.{held_so_far}
use Rattle.auctioneer.proofs.tally.Tally.add_stand.Given as goal

abbrev pub invariant-loop-job : goal.invariant-loop-job
invariant-loop-job l = (other : JobName) (name : List ℕ)
    → tallied l.self other name ≡ tallied l.fn.self other name + held_so_far l.fn.place other name l.stand l.job-index
