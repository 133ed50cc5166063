use Rattle.differences.proofs.Touched.{index_renewed}
use Rattle.differences.proofs.following.renew_index.Goals as goal

pub returns-clause-places : goal.returns-clause-places
returns-clause-places g c p =
    index_renewed c.args.key.now p _ c.args.places.now.entries c.renew_place.new.places.entries
    c.renew_aside.new.places.entries c.renew_aside-2.new.places.entries (c.renew_place.ensures.places p)
    (c.renew_aside.ensures.places p) (c.renew_aside-2.ensures.places p)
