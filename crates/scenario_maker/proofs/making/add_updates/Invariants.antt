use Rattle.std.proofs.Common.{◌≡◌, ◌++◌, ◌*◌}
use Rattle.scenario_maker.specs.Draws.{behind}
use Rattle.scenario_maker.specs.Generated.{each_below, update_of}
use Rattle.scenario_maker.proofs.making.add_updates.Given as goal

abbrev pub invariant-loop-before : goal.invariant-loop-before
invariant-loop-before l =
    (l.text.items ≡ l.fn.text.items ++ each_below l._before (update_of l.fn.draws.last))
    × (l.draws.last ≡ behind (2 * l._before) l.fn.draws.last)
