use Rattle.std.proofs.Common.{◌≡◌, take}
use Rattle.std.specs.Prelude.{filter}
use Rattle.route_emitter.specs.Routes.{is_running}
use Rattle.route_emitter.proofs.kept.that_run.Given as goal

abbrev pub invariant-loop-row : goal.invariant-loop-row
invariant-loop-row l = l.kept.items ≡ filter is_running (take l.row-index l.rows)
