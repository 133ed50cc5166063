use Rattle.std.proofs.Common.{take}
use Rattle.std.specs.Prelude.{filter}
use Rattle.std.specs.BTreeSet.{contains}
use Rattle.diego_names.specs.Key.{key_order}
use Rattle.route_emitter.specs.Near.{Covers}
use Rattle.route_emitter.specs.Routes.{is_running}
use Rattle.route_emitter.proofs.instances.Instances.of.Given as goal

abbrev pub invariant-loop-row : goal.invariant-loop-row
invariant-loop-row l = Covers (contains key_order l.instances.set) (filter is_running (take l.row-index l.rows))
