use Rattle.differences.proofs.Touched.{place_renewed}
use Rattle.differences.proofs.following.renew_place.Goals as goal

pub returns-clause-places : goal.returns-clause-places
returns-clause-places g c =
    place_renewed (g.T.RowStore.state c.args.store.now) c.args.place c.causes_in-causes.result c.args.places.now.entries
    c.renew.new.map.entries c.renew.ensures.updates.0 c.causes_in-causes.ensures
