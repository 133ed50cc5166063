use Rattle.std.proofs.Common.{sym, ap, ◌∙◌}
use Rattle.pair_lines.specs.Scripts.{first_other_in}
use Rattle.pair_lines.proofs.Others.{found_next, none_next}
use Rattle.pair_lines.proofs.script.first_other.Goals as goal

pub loop-phase-preserved : goal.loop-phase-preserved
loop-phase-preserved c =
    none_next c.items-phases.result.now c.loop-phase.phase-index c.phase-item.result c.loop-phase-test.true
    c.phase-item.is
    c.loop-phase.invariant (sym c.other_in.ensures ∙ c.in_default.is)

pub returns-in-Some : goal.returns-in-Some
returns-in-Some c =
    sym (found_next c.items-phases.result.now c.loop-phase.phase-index c.phase-item.result c.loop-phase-test.true
    c.phase-item.is c.loop-phase.invariant c.in-Some.line (sym c.other_in.ensures ∙ c.in-Some.is))
    ∙ ap first_other_in c.items-phases.ensures
