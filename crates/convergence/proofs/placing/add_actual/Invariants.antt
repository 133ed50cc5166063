use Rattle.std.proofs.Common.{◌≡◌, ◌++◌, map, take}
use Rattle.lrp_records.specs.Place.{place_of}
use Rattle.convergence.proofs.placing.add_actual.Given as goal

abbrev pub invariant-loop-row : goal.invariant-loop-row
invariant-loop-row l = l.all.items ≡ l.fn.all.items ++ map place_of (take l.row-index l.rows)
