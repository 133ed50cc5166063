use Rattle.std.proofs.Common.{◌≡◌, filter, not, take}
use Rattle.std.specs.List.{flat_map}
use Rattle.what_if.specs.Baselines.{held_by, stands_outside}
use Rattle.what_if.proofs.taken.taken_from.Given as goal

abbrev pub invariant-loop-cell : goal.invariant-loop-cell
invariant-loop-cell l = l.list.items ≡ flat_map (λ cell.
    filter (λ w. not (stands_outside l.base l.gone w)) (held_by l.base cell)) (take l.cell-index l.cells)
