use Rattle.std.proofs.Common.{◌≡◌, ◌++◌, ◌*◌}
use Rattle.scenario_maker.specs.Draws.{behind}
use Rattle.scenario_maker.specs.Generated.{each_below, update_phases_behind}
use Rattle.scenario_maker.proofs.making.add_rounds.Given as goal

abbrev pub invariant-loop-before : goal.invariant-loop-before
invariant-loop-before l =
    (l.text.items ≡ l.fn.text.items ++ each_below l.before (update_phases_behind l.fn.draws.last))
    × (l.draws.last ≡ behind (194 * l.before) l.fn.draws.last)
