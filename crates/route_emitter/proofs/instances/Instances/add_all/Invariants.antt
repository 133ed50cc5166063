use Rattle.std.proofs.Common.{◌≡◌, true, take}
use Rattle.std.specs.BTreeSet.{contains}
use Rattle.diego_names.specs.Key.{key_order}
use Rattle.diego_names.specs.declared.key.Key.{Key}
use Rattle.route_emitter.specs.Near.{WillCover}
use Rattle.route_emitter.proofs.instances.Instances.add_all.Given as goal

abbrev pub invariant-loop-event : goal.invariant-loop-event
invariant-loop-event l = record {
  more : (k : Key) → contains key_order l.fn.self.set k ≡ true → contains key_order l.self.set k ≡ true;
  covered : WillCover (contains key_order l.self.set) (take l.event-index l.events);
}
