use Rattle.std.proofs.Common.{◌≡◌, map, drop}
use Rattle.serde_json.specs.View.{view}
use Rattle.scenario_lines.specs.Names.{names_said}
use Rattle.scenario_lines.proofs.ListedNames.{onto}
use Rattle.scenario_lines.proofs.names.names_of.Given as goal

abbrev pub invariant-loop-item : goal.invariant-loop-item
invariant-loop-item l = onto l.names (names_said (map view (drop l.item-index l.items))) ≡ names_said (map view l.items)
