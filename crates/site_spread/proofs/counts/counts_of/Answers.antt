use Rattle.std.proofs.Common.{ℕ, Option, ap, ◌∙◌, take_all}
use Rattle.std.specs.HashMap.{get}
use Rattle.std.specs.List.{count_by}
use Rattle.std.specs.Option.{unwrap_or}
use Rattle.site_spread.proofs.Counting.{counted_next}
use Rattle.site_spread.proofs.counts.counts_of.Goals as goal

pub loop-key-preserved : goal.loop-key-preserved
loop-key-preserved g c = λ q.
    let eq = g.K.PartialEq.eq in
    let key = c.key-item.result in
    ap (λ (o : Option ℕ). unwrap_or o 0) (c.in_ok-insert.ensures.updates.0 q)
    ∙ counted_next eq c.requires q c.args.keys.now c.loop-key.key-index c.count_in-so_far.result key
    (get eq c.loop-key.counts) c.loop-key-test.true c.key-item.is c.loop-key.invariant c.count_in-so_far.ensures

pub returns : goal.returns
returns g c = λ q.
    c.loop-key.invariant q
    ∙ ap (count_by (λ k. g.K.PartialEq.eq q k)) (take_all c.loop-key.key-index c.args.keys.now c.loop-key-test.false)
