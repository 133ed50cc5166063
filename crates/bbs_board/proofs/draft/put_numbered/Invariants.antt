use Rattle.std.proofs.Common.{◌≡◌, ◌+◌, ◌*◌, ◌≤◌, ◌++◌, take, vec_len, vec_capacity}
use Rattle.std.specs.List.{flat_map, AllByRecursion}
use Rattle.bbs_board.proofs.draft.put_numbered.Given as goal

abbrev pub invariant-loop-number : goal.invariant-loop-number
invariant-loop-number g l = record {
  bytes : l.out.items ≡ l.fn.out.items ++ flat_map g.X.Fields.format.spelling (take l.number-index l.shelf.rows);
  fits : AllByRecursion g.X.Fields.format.Fits (take l.number-index l.shelf.rows);
  few : vec_len l.out ≤ vec_len l.fn.out + 344 * l.number-index;
  kept : vec_capacity l.fn.out ≤ vec_capacity l.out;
}
