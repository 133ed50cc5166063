use Rattle.std.proofs.Common.{◌≡◌, ℕ, ◌+◌, ◌*◌, ◌<◌, ◌≤◌, ◌++◌, length, take, vec_len, vec_capacity}
use Rattle.std.specs.List.{flat_map, AllByRecursion}
use Rattle.bbs_board.proofs.Drafting.{StandsBehind}
use Rattle.bbs_board.proofs.draft.put_in_turn.Given as goal

abbrev pub invariant-loop-number : goal.invariant-loop-number
invariant-loop-number g l = record {
  within : l.number ≤ l.number-end;
  ends : l.number-end ≡ length l.shelf.rows;
  bytes : l.out.items ≡ l.fn.out.items ++ flat_map g.X.Fields.format.spelling (take l.number l.shelf.numbered);
  fits : AllByRecursion g.X.Fields.format.Fits (take l.number l.shelf.numbered);
  few : vec_len l.out ≤ vec_len l.fn.out + 344 * l.number;
  kept : vec_capacity l.fn.out ≤ vec_capacity l.out;
  sorted : (number : ℕ) → number < l.number → StandsBehind g.X.Key.Ord.cmp g.X.Rowed.key l.shelf.numbered number;
}
