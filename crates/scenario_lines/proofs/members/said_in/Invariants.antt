use Rattle.scenario_lines.proofs.Kept.{KeptSoFar}
use Rattle.scenario_lines.proofs.members.said_in.Given as goal

abbrev pub invariant-loop-name : goal.invariant-loop-name
invariant-loop-name l = KeptSoFar l.said l.name-iterator l.initial.name-iterator
