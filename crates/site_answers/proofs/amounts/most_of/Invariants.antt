use Rattle.std.proofs.Common.{◌≡◌, take}
use Rattle.site_answers.specs.Sums.{most_of}
use Rattle.site_answers.proofs.amounts.most_of.Given as goal

abbrev pub invariant-loop-next : goal.invariant-loop-next
invariant-loop-next l = l.most ≡ most_of (take l.next-index l.amounts)
