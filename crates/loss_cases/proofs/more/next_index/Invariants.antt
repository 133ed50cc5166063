use Rattle.std.proofs.Common.{◌≡◌, ◌≤◌, ◌^◌, take}
use Rattle.loss_cases.specs.Fits.{next_index}
use Rattle.loss_cases.proofs.more.next_index.Given as goal

abbrev pub invariant-loop-instance : goal.invariant-loop-instance
invariant-loop-instance l = record {
  so_far : l.next ≡ next_index l.process (take l.instance-index l.wanted);
  most : l.next ≤ 2 ^ 32;
}
