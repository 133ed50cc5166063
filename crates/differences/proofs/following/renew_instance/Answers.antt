use Rattle.differences.proofs.Touched.{instance_renewed}
use Rattle.differences.proofs.following.renew_instance.Goals as goal

pub returns-clause-places : goal.returns-clause-places
returns-clause-places g c p =
    instance_renewed c.args.key.now p _ _ _ _ _ (c.renew_place.ensures.places p) (c.renew_place-2.ensures.places p)
    (c.renew_place-3.ensures.places p)
