use Rattle.std.proofs.Common.{[], ◌∷◌, ◌++◌, cond, filter, map, sym, ap, ◌∙◌, take_all}
use Rattle.what_if.proofs.Grouped.{made_next}
use Rattle.what_if.proofs.groups.groups_of.Goals as goal

pub loop-pair-preserved : goal.loop-pair-preserved
loop-pair-preserved g c = λ q.
    let eq = g.K.PartialEq.eq in
    let pair = c.pair-item.result in
    c.in_ok-add_to_group.ensures q
    ∙ ap (λ vs. vs ++ cond (eq pair.0 q) (pair.1 ∷ []) []) (c.loop-pair.invariant q)
    ∙ sym (made_next (λ p. p.1) (λ p. eq p.0 q) c.args.pairs.now c.loop-pair.pair-index pair c.loop-pair-test.true
    c.pair-item.is)

pub returns : goal.returns
returns g c = λ q.
    c.loop-pair.invariant q
    ∙ ap (λ ps. map (λ p. p.1) (filter (λ p. g.K.PartialEq.eq p.0 q) ps))
    (take_all c.loop-pair.pair-index c.args.pairs.now c.loop-pair-test.false)
