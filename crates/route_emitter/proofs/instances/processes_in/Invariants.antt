use Rattle.std.proofs.Common.{◌≡◌, take}
use Rattle.std.specs.List.{filter_map}
use Rattle.route_emitter.specs.Near.{process_in}
use Rattle.route_emitter.proofs.instances.processes_in.Given as goal

abbrev pub invariant-loop-event : goal.invariant-loop-event
invariant-loop-event l = l.names.items ≡ filter_map (λ e. process_in e.row) (take l.event-index l.events)
