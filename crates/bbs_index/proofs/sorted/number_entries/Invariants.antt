use Rattle.std.proofs.Common.{◌≡◌, ◌≤◌, length, take, vec_len, vec_capacity}
use Rattle.indexmap.specs.IndexMap.{values}
use Rattle.bbs_index.specs.Shelf.{AreNumbered}
use Rattle.bbs_index.proofs.sorted.number_entries.Given as goal

abbrev pub invariant-loop-number : goal.invariant-loop-number
invariant-loop-number g l = record {
  within : l.number ≤ l.number-end;
  ends : l.number-end ≡ length l.map.entries;
  numbers : AreNumbered (values l.map) l.numbers.items (take l.number (values l.map));
  count : vec_len l.numbers ≡ l.number;
  capacity : vec_capacity l.numbers ≡ vec_capacity l.fn.numbers;
}
