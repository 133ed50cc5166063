use Rattle.std.proofs.Common.{◌≡◌, ◌++◌}
use Rattle.route_emitter.specs.Near.{of_process}
use Rattle.route_emitter.proofs.instances.Instances.list.Given as goal

abbrev pub invariant-loop-key : goal.invariant-loop-key
invariant-loop-key l = l.keys.items ++ l.key-iterator ≡ l.fn.keys.items ++ of_process l.self.set.keys l.process
