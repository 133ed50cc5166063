use Rattle.std.proofs.Common.{◌≡◌, cond, List, [], ◌∷◌, ◌++◌, filter, map, sym, ap, subst, ◌∙◌, take_all}
use Rattle.cell_records.specs.declared.answer.Answer.{Answer}
use Rattle.auctioneer.specs.Asked.{AreAnswers}
use Rattle.what_if.specs.Kept.{kept_cell}
use Rattle.what_if.specs.Stays.{is_open, open_cells}
use Rattle.what_if.proofs.Grouped.{made_next}
use Rattle.what_if.proofs.KeptCells.{AreAnswers-kept}
use Rattle.what_if.proofs.Open.{AreAnswers-open}
use Rattle.what_if.proofs.kept_cells.kept_cells.Goals as goal

pub loop-answer-preserved : goal.loop-answer-preserved
loop-answer-preserved c =
    let lost = c.args.lost.now in
    let kept : Answer → Answer = kept_cell c.args.processes.now in
    let a = c.answer-item.result in
    c.in_ok-add_if_open.ensures
    ∙ ap (λ (xs : List Answer). xs ++ cond (is_open lost a) (kept a ∷ []) []) c.loop-answer.invariant
    ∙ sym (made_next kept (is_open lost) c.items-answer-items.result.now c.loop-answer.answer-index a
    c.loop-answer-test.true c.answer-item.is)

pub returns-clause-value : goal.returns-clause-value
returns-clause-value c =
    c.loop-answer.invariant
    ∙ ap (λ (xs : List Answer). map (kept_cell c.args.processes.now) (filter (is_open c.args.lost.now) xs))
    (take_all c.loop-answer.answer-index c.items-answer-items.result.now c.loop-answer-test.false
    ∙ c.items-answer-items.ensures)

pub returns-clause-sound : goal.returns-clause-sound
returns-clause-sound c =
    let value = c.loop-answer.invariant
    ∙ ap (λ (xs : List Answer). map (kept_cell c.args.processes.now) (filter (is_open c.args.lost.now) xs))
    (take_all c.loop-answer.answer-index c.items-answer-items.result.now c.loop-answer-test.false
    ∙ c.items-answer-items.ensures) in
    subst AreAnswers (sym value)
    (AreAnswers-kept c.args.processes.now (open_cells c.args.site.now c.args.lost.now)
    (AreAnswers-open c.args.site.now c.args.lost.now c.requires.cells))
