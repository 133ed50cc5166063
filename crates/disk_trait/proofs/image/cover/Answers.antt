use Rattle.std.proofs.Common.{◌∙◌, arith, rules}
use Rattle.disk_trait.proofs.PickLemmas.{cover_tears}
use Rattle.disk_trait.proofs.ChoiceLemmas.{covered_none, covered_here}
use Rattle.disk_trait.proofs.image.cover.Goals as goal

pub returns-then-from-len-clause-bytes : goal.returns-then-from-len-clause-bytes
returns-then-from-len-clause-bytes c = covered_none _ _ _ _ (omega arith)

pub returns-clause-tears : goal.returns-clause-tears
returns-clause-tears c =
    cover_tears c.args.from c.args.len c.args.byte c.args.left.items c.lay.new.target.items c.deref.result.now
    (omega arith) (omega arith)
    (c.deref.ensures.value ∙ c.in_ok-fill.ensures.items_if_clones_equal (λ y same. search rules)) c.in_ok-lay.ensures.ok

pub returns-clause-bytes : goal.returns-clause-bytes
returns-clause-bytes c =
    covered_here c.args.byte c.args.from c.args.len c.args.left.items c.lay.new.target.items c.deref.result.now
    (omega arith)
    (c.deref.ensures.value ∙ c.in_ok-fill.ensures.items_if_clones_equal (λ y same. search rules)) c.in_ok-lay.ensures.ok
