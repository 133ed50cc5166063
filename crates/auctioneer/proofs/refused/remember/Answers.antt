use Rattle.std.proofs.Common.{sym, subst}
use Rattle.std.proofs.lemmas.List.Elements.{All-set}
use Rattle.auctioneer.specs.Refused.{FitsNowhere, AreRefused}
use Rattle.auctioneer.proofs.Refusals.{NoneFits-more}
use Rattle.auctioneer.proofs.refused.remember.Goals as goal

pub returns-then-is_at_most : goal.returns-then-is_at_most
returns-then-is_at_most c = λ stands h none.
    All-set (FitsNowhere stands) c.loop-at.refused.items c.loop-at.at c.of-size.result
    (subst (FitsNowhere stands) (sym c.of-size.ensures) (λ job asks. NoneFits-more stands job c.args.job.now asks none))
    (subst (AreRefused stands) (sym c.loop-at.invariant) h)

pub returns-then-len-lt-MOST : goal.returns-then-len-lt-MOST
returns-then-len-lt-MOST c = λ stands h none.
    c.add-added.ensures stands (subst (AreRefused stands) (sym c.loop-at.invariant) h)
    (λ job asks. NoneFits-more stands job c.args.job.now asks none)

pub returns-else-len-lt-MOST : goal.returns-else-len-lt-MOST
returns-else-len-lt-MOST c = λ stands h none. subst (AreRefused stands) (sym c.loop-at.invariant) h
