use Rattle.differences.proofs.Touched.{aside_renewed}
use Rattle.differences.proofs.following.renew_aside.Goals as goal

pub returns-clause-places : goal.returns-clause-places
returns-clause-places g c =
    aside_renewed (g.T.RowStore.state c.args.store.now) c.args.place c.causes_in-causes.result c.args.places.now.entries
    c.renew_known.new.map.entries (λ known. (c.renew_known.ensures.known known).0) c.renew_known.ensures.unknown
    c.causes_in-causes.ensures
