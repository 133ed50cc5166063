use Rattle.std.proofs.Common.{◌≢◌, ℕ, ◌<◌, get_or}
use Rattle.cell_records.specs.declared.job.Job.{Job}
use Rattle.auctioneer.proofs.asked.are_jobs.Given as goal

abbrev pub invariant-loop-i : goal.invariant-loop-i
invariant-loop-i l = (a b : ℕ) (d : Job) → a < b → b < l.i → (get_or l.jobs a d).job ≢ (get_or l.jobs b d).job

abbrev pub invariant-loop-j : goal.invariant-loop-j
invariant-loop-j l = (a : ℕ) (d : Job) → a < l.j → (get_or l.jobs a d).job ≢ (get_or l.jobs l.i d).job
