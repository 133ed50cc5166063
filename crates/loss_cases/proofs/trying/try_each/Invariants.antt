use Rattle.std.proofs.Common.{◌≡◌, ◌++◌, map, take}
use Rattle.loss_cases.specs.Cases.{case_of}
use Rattle.loss_cases.proofs.trying.try_each.Given as goal

abbrev pub invariant-loop-loss : goal.invariant-loop-loss
invariant-loop-loss l =
    l.cases.items ≡ l.fn.cases.items ++ map (case_of l.question.base.site.now) (take l.loss-index l.losses)
