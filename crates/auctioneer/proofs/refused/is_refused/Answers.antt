use Rattle.std.proofs.Common.{sym, ap, ◌∙◌}
use Rattle.auctioneer.specs.Refused.{asks_as_much}
use Rattle.auctioneer.proofs.refused.is_refused.Goals as goal

pub returns-then-is_within : goal.returns-then-is_within
returns-then-is_within c = λ yes stands h.
    h c.loop-size.size-index c.size-item.result c.loop-size-test.true c.args.job.now
    (ap (asks_as_much c.args.job.now) (sym c.size-item.is) ∙ sym c.is_within.ensures ∙ c.if-is_within.true)
