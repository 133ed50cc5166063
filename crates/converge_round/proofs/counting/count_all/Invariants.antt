use Rattle.std.proofs.Common.{◌≡◌, take}
use Rattle.converge_round.specs.Starts.{counted_all}
use Rattle.converge_round.proofs.counting.count_all.Given as goal

abbrev pub invariant-loop-claimed : goal.invariant-loop-claimed
invariant-loop-claimed l = l.tally ≡ counted_all (take l.claimed-index l.ends) l.initial.tally
