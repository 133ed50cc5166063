use Rattle.std.proofs.Common.{◌≡◌, ◌++◌, ◌*◌}
use Rattle.scenario_maker.specs.Draws.{behind}
use Rattle.scenario_maker.specs.Generated.{desire_of, each_below}
use Rattle.scenario_maker.proofs.making.add_desires.Given as goal

abbrev pub invariant-loop-process : goal.invariant-loop-process
invariant-loop-process l =
    (l.text.items ≡ l.fn.text.items ++ each_below l.process (desire_of l.fn.draws.last))
    × (l.draws.last ≡ behind (2 * l.process) l.fn.draws.last)
