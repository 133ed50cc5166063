use Rattle.std.proofs.Common.{◌≡◌, ◌≤◌, vec_len, vec_capacity}
use Rattle.bbs_index.specs.Order.{AreBelow}
use Rattle.bbs_index.proofs.order.push_lacking.Given as goal

abbrev pub invariant-loop-number : goal.invariant-loop-number
invariant-loop-number l = record {
  within : l.number ≤ l.count;
  order : AreBelow l.number l.numbers.items;
  count : vec_len l.numbers ≡ l.number;
  capacity : vec_capacity l.numbers ≡ vec_capacity l.fn.numbers;
}
