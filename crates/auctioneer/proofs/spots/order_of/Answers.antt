use Rattle.std.proofs.Common.{subst}
use Rattle.std.specs.BTreeSet.{IsFromIterResult}
use Rattle.std.specs.Result.{IfOk}
use Rattle.std.proofs.lemmas.Iterator.{YieldsList-from_slice}
use Rattle.std.proofs.lemmas.Iterator.Adapters.{fact_from_collect}
use Rattle.std.proofs.lemmas.Iterator.Consumers.{YieldsList-from_copied}
use Rattle.auctioneer.specs.Spots.{spot_order}
use Rattle.auctioneer.proofs.spots.order_of.Goals as goal

pub returns : goal.returns
returns c =
    subst (λ r. IfOk r (IsFromIterResult spot_order c.args.spots.now)) c.in_ok-collect.was
    (fact_from_collect (λ xs s. IsFromIterResult spot_order xs s) c.collect.result c.collect.ensures.ran
    (YieldsList-from_copied (YieldsList-from_slice c.args.spots.now cc)))
