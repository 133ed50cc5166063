use Rattle.std.specs.BTreeSet.{contains}
use Rattle.diego_names.specs.Key.{key_order}
use Rattle.route_emitter.proofs.Covering.{covers-without}
use Rattle.route_emitter.proofs.instances.Instances.drop_one.Goals as goal

pub returns : goal.returns
returns c =
    covers-without (contains key_order c.args.self.now.set)
    (contains key_order c.remove.new.self) c.args.kept.now.running c.args.key.now
    c.count-rows.ensures.rising c.requires.idle c.remove.ensures.updates.0 c.requires.covers
