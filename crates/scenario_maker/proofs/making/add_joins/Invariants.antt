use Rattle.std.proofs.Common.{◌≡◌, ◌++◌}
use Rattle.scenario_maker.specs.Generated.{each_below, join_phase}
use Rattle.scenario_maker.proofs.making.add_joins.Given as goal

abbrev pub invariant-loop-cell : goal.invariant-loop-cell
invariant-loop-cell l = l.text.items ≡ l.fn.text.items ++ each_below l.cell join_phase
