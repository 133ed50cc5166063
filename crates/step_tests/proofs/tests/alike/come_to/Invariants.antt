use Rattle.bbs_model.specs.Valid.{IsValid}
use Rattle.step_tests.proofs.tests.alike.come_to.Given as goal

abbrev pub invariant-loop-command : goal.invariant-loop-command
invariant-loop-command l =
    (goal.iterator-loop-command).can_next l.command-iterator
    × (goal.iterator-loop-command).is_finite l.command-iterator
    × IsValid l.index.rows
