use Rattle.std.proofs.Common.{◌∙◌}
use Rattle.differences.proofs.Touched.{desired_renewed, put_renewed}
use Rattle.differences.specs.Standing.{count_in}
use Rattle.differences.proofs.following.take_desired.Goals as goal

pub returns-clause-places : goal.returns-clause-places
returns-clause-places g c p =
    desired_renewed c.args.process.now c.args.counts.now.entries c.renew.new.map.entries c.copied-before.result
    c.count_in-after.result (c.copied-before.ensures ∙ c.get.ensures.value) c.renew.ensures.updates.0 p _ _ _
    (c.renew_changed.ensures.places p)

pub returns-clause-counts : goal.returns-clause-counts
returns-clause-counts g c =
    put_renewed c.args.process.now (count_in (g.T.RowStore.state c.args.store.now)) c.count_in-after.result
    c.args.counts.now.entries c.renew.new.map.entries c.count_in-after.ensures c.renew.ensures.updates.0
