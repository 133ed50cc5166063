use Rattle.std.proofs.Common.{◌≡◌, ◌++◌, ◌∷◌, [], ◌==◌, ◌+◌, ◌∙◌, true, false, ap, drop, length, sym, arith}
use Rattle.what_if.specs.Plans.{planned}
use Rattle.loss_cases.specs.Cases.{can_go}
use Rattle.loss_cases.specs.Turns.{left_by, one_too_many, turn_from}
use Rattle.loss_cases.specs.declared.turns.Leaves.{Leaves}
use Rattle.loss_cases.proofs.Turning.{none_left, some_left, turn_goes, turn_stops}
use Rattle.loss_cases.proofs.turns.turn_of.Goals as goal

pub loop-cell-preserved : goal.loop-cell-preserved
loop-cell-preserved c =
    let site = c.args.base.now.site.now in
    let cells = c.args.cells.now in
    let i = c.loop-cell.cell-index in
    let cell = c.cell-item.result in
    let gone = c.loop-cell.gone in
    let after : c.push.new.self ≡ gone ++ cell.cell ∷ [] = c.in_ok-push.ensures.ok in
    let none : (c.in_ok-left.left.unplaced == 0) ≡ true = none_left c.in_ok-left.left.unplaced (omega arith) in
    let goes : can_go site (gone ++ cell.cell ∷ []) ≡ true =
    ap (can_go site) (sym (c.items.ensures ∙ after)) ∙ ap (λ (l : Leaves). l.unplaced == 0)
    (sym c.in_ok-left.ensures) ∙ none in
    ap (λ xs. turn_from site c.args.tag (length cells) xs (drop (i + 1) cells)) after
    ∙ turn_goes site c.args.tag (length cells) gone cells i cell c.loop-cell-test.true c.cell-item.is goes
    ∙ c.loop-cell.invariant

pub returns-then-left-gt0 : goal.returns-then-left-gt0
returns-then-left-gt0 c =
    let site = c.args.base.now.site.now in
    let cells = c.args.cells.now in
    let n = length cells in
    let cell = c.cell-item.result in
    let gone = c.loop-cell.gone in
    let left = c.in_ok-left.left in
    let after : c.push.new.self ≡ gone ++ cell.cell ∷ [] = c.in_ok-push.ensures.ok in
    let some : (left.unplaced == 0) ≡ false = some_left left.unplaced (omega (arith, c.if-left-gt0.true)) in
    let stays : can_go site (gone ++ cell.cell ∷ []) ≡ false =
    ap (can_go site) (sym (c.items.ensures ∙ after)) ∙ ap (λ (l : Leaves). l.unplaced == 0)
    (sym c.in_ok-left.ensures) ∙ some in
    c.one_too_many.ensures
    ∙ ap (λ k. one_too_many c.args.tag n k c.push.new.self left) c.len-survived.ensures
    ∙ ap (λ xs. one_too_many c.args.tag n (length gone) xs left) after
    ∙ ap (one_too_many c.args.tag n (length gone) (gone ++ cell.cell ∷ []))
    (c.in_ok-left.ensures ∙ ap (λ xs. left_by (planned site xs)) (c.items.ensures ∙ after))
    ∙ turn_stops site c.args.tag n gone cells c.loop-cell.cell-index cell c.loop-cell-test.true c.cell-item.is stays
    ∙ c.loop-cell.invariant
