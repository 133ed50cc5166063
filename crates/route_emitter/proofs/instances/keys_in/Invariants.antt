use Rattle.std.proofs.Common.{◌≡◌, take}
use Rattle.std.specs.List.{filter_map}
use Rattle.route_emitter.specs.Near.{key_in}
use Rattle.route_emitter.proofs.instances.keys_in.Given as goal

abbrev pub invariant-loop-event : goal.invariant-loop-event
invariant-loop-event l = l.keys.items ≡ filter_map (λ e. key_in e.row) (take l.event-index l.events)
