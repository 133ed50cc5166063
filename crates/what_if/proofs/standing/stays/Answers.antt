use Rattle.std.proofs.Common.{cond, List, [], ◌++◌, sym, ap, ◌∙◌}
use Rattle.what_if.specs.Stays.{is_open, stays_on}
use Rattle.what_if.specs.declared.site.Stay.{Stay}
use Rattle.what_if.proofs.Lists.{flat_map_next}
use Rattle.what_if.proofs.standing.stays.Goals as goal

pub loop-answer-preserved : goal.loop-answer-preserved
loop-answer-preserved c =
    let lost = c.args.lost.now in
    let a = c.answer-item.result in
    c.in_ok-add_stays.ensures
    ∙ ap (λ (xs : List Stay). xs ++ cond (is_open lost a) (stays_on a) []) c.loop-answer.invariant
    ∙ sym (flat_map_next stays_on (is_open lost) c.items-answer-items.result.now c.loop-answer.answer-index a
    c.loop-answer-test.true c.answer-item.is)
