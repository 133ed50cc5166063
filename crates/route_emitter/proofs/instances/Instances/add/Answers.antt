use Rattle.std.specs.BTreeSet.{contains}
use Rattle.diego_names.specs.Key.{key_order}
use Rattle.route_emitter.proofs.Covering.{indexed-one_more}
use Rattle.route_emitter.proofs.instances.Instances.add.Goals as goal

pub returns-clause-more : goal.returns-clause-more
returns-clause-more c k h =
    indexed-one_more (contains key_order c.args.self.now.set)
    (contains key_order c.insert.new.self) c.args.key c.in_ok-insert.ensures.updates.0 k h
