use Rattle.std.proofs.Common.{ℕ, List, ◌++◌, filter, not, sym, ap, ◌∙◌}
use Rattle.what_if.specs.Baselines.{held_by, stands_outside}
use Rattle.what_if.specs.declared.site.Wanted.{Wanted}
use Rattle.what_if.proofs.Lists.{flat_next}
use Rattle.what_if.proofs.taken.taken_from.Goals as goal

pub loop-cell-preserved : goal.loop-cell-preserved
loop-cell-preserved c =
    let f : List ℕ → List Wanted = λ cell. filter (λ w. not (stands_outside c.args.base.now c.args.gone.now w))
    (held_by c.args.base.now cell) in
    let cell = c.cell-item.result in
    c.in_ok-add_taken.ensures
    ∙ ap (λ (ws : List Wanted). ws ++ f cell) c.loop-cell.invariant
    ∙ sym (flat_next f c.args.cells.now c.loop-cell.cell-index cell c.loop-cell-test.true c.cell-item.is)
