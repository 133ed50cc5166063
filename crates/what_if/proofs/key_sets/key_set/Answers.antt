use Rattle.std.proofs.Common.{Bool, ◌||◌, sym, ap, ◌∙◌, take_all}
use Rattle.std.specs.HashSet.{contains}
use Rattle.std.specs.List.{list_any}
use Rattle.what_if.proofs.Lists.{any_next, or_last}
use Rattle.what_if.proofs.key_sets.key_set.Goals as goal

pub loop-key-preserved : goal.loop-key-preserved
loop-key-preserved g c = λ q.
    let eq = g.K.PartialEq.eq in
    let key = c.key-item.result in
    c.in_ok-insert.ensures.updates.0 q
    ∙ or_last (eq key q) (contains eq c.loop-key.set q)
    ∙ ap (λ (b : Bool). b || eq key q) (c.loop-key.invariant q)
    ∙ sym (any_next (λ k. eq k q) c.args.keys.now c.loop-key.key-index key c.loop-key-test.true c.key-item.is)

pub returns : goal.returns
returns g c = λ q.
    c.loop-key.invariant q
    ∙ ap (list_any (λ k. g.K.PartialEq.eq k q)) (take_all c.loop-key.key-index c.args.keys.now c.loop-key-test.false)
