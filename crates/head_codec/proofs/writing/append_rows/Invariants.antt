use Rattle.std.proofs.Common.{◌≡◌, ◌++◌, take}
use Rattle.std.specs.List.{flat_map, AllByRecursion}
use Rattle.head_codec.proofs.writing.append_rows.Given as goal

abbrev pub invariant-loop-row : goal.invariant-loop-row
invariant-loop-row g l = record {
  bytes : l.out.items ≡ l.fn.out.items ++ flat_map g.X.Fields.format.spelling (take l.row-index l.rows);
  fits : AllByRecursion g.X.Fields.format.Fits (take l.row-index l.rows);
}
