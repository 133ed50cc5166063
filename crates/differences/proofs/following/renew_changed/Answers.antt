use Rattle.differences.proofs.Touched.{changed_renewed}
use Rattle.differences.proofs.following.renew_changed.Goals as goal

pub returns-clause-places : goal.returns-clause-places
returns-clause-places g c p =
    changed_renewed c.args.process.now c.args.before c.args.after c.unwrap_or-was.result c.unwrap_or-is.result
    c.min.result c.max.result p _ _ _ c.unwrap_or-was.ensures c.unwrap_or-is.ensures c.min.ensures c.max.ensures
    (c.renew_range.ensures.places p)
