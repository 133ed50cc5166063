use Rattle.std.proofs.Common.{◌≡◌, ◌++◌, take}
use Rattle.std.specs.List.{flat_map}
use Rattle.route_emitter.specs.Near.{of_process}
use Rattle.route_emitter.proofs.instances.Instances.list_all.Given as goal

abbrev pub invariant-loop-process : goal.invariant-loop-process
invariant-loop-process l = l.keys.items ≡ l.fn.keys.items
    ++ flat_map (of_process l.self.set.keys) (take l.process-index l.processes)
