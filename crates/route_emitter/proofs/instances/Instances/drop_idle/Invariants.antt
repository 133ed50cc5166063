use Rattle.std.specs.BTreeSet.{contains}
use Rattle.diego_names.specs.Key.{key_order}
use Rattle.route_emitter.specs.Near.{Covers}
use Rattle.route_emitter.proofs.instances.Instances.drop_idle.Given as goal

abbrev pub invariant-loop-key : goal.invariant-loop-key
invariant-loop-key l = Covers (contains key_order l.self.set) l.kept.running
