use Rattle.std.proofs.Common.{◌≡◌, ◌+◌, ◌≤◌, length, take}
use Rattle.bbs_index.proofs.shelf.Shelf.of.Given as goal

abbrev pub invariant-loop-row : goal.invariant-loop-row
invariant-loop-row g l = record {
  so_far : l.shelf.rows ≡ take l.row-index l.rows;
  room : length l.rows ≤ l.shelf.spare + l.row-index;
}
