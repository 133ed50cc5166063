use Rattle.std.proofs.Common.{◌≡◌, take}
use Rattle.std.specs.Prelude.{filter}
use Rattle.route_emitter.specs.Routes.{has_route}
use Rattle.route_emitter.proofs.kept.with_routes.Given as goal

abbrev pub invariant-loop-row : goal.invariant-loop-row
invariant-loop-row l = l.kept.items ≡ filter has_route (take l.row-index l.rows)
