use Rattle.std.proofs.Common.{◌≡◌, take}
use Rattle.loss_cases.specs.Cases.{worst}
use Rattle.loss_cases.proofs.verdicts.worst.Given as goal

abbrev pub invariant-loop-verdict : goal.invariant-loop-verdict
invariant-loop-verdict l = l.so_far ≡ worst (take l.verdict-index l.verdicts)
