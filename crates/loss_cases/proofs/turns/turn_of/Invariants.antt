use Rattle.std.proofs.Common.{◌≡◌, drop}
use Rattle.loss_cases.specs.Turns.{turn_from, turn_of}
use Rattle.loss_cases.proofs.turns.turn_of.Given as goal

abbrev pub invariant-loop-cell : goal.invariant-loop-cell
invariant-loop-cell l =
    turn_from l.fn.base.site.now l.tag l.count l.gone (drop l.cell-index l.cells)
    ≡ turn_of l.fn.base.site.now l.fn.tag l.fn.cells
