use Rattle.std.proofs.Common.{◌≡◌, take}
use Rattle.headroom_print.specs.Worst.{worst}
use Rattle.headroom_print.proofs.verdicts.worst.Given as goal

abbrev pub invariant-loop-one : goal.invariant-loop-one
invariant-loop-one l = l.so_far ≡ worst (take l.one-index l.found)
