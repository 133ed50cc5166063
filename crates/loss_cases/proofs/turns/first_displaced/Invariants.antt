use Rattle.std.proofs.Common.{◌≡◌, drop, not}
use Rattle.std.specs.List.{find}
use Rattle.loss_cases.proofs.turns.first_displaced.Given as goal

abbrev pub invariant-loop-job : goal.invariant-loop-job
invariant-loop-job l = find (λ u. not u.waited) (drop l.job-index l.without) ≡ find (λ u. not u.waited) l.fn.without
