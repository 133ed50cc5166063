use Rattle.std.proofs.Common.{◌≡◌, take}
use Rattle.std.specs.List.{filter_map}
use Rattle.route_emitter.specs.Routes.{entry_among}
use Rattle.route_emitter.proofs.kept.list_rows.Given as goal

abbrev pub invariant-loop-row : goal.invariant-loop-row
invariant-loop-row l = l.entries.items ≡ filter_map (entry_among l.desired.rows) (take l.row-index l.rows)
