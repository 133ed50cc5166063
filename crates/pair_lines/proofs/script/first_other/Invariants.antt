use Rattle.std.proofs.Common.{◌≡◌, None, take}
use Rattle.pair_lines.specs.Scripts.{first_other_in}
use Rattle.pair_lines.proofs.script.first_other.Given as goal

abbrev pub invariant-loop-phase : goal.invariant-loop-phase
invariant-loop-phase l = first_other_in (take l.phase-index l.phases) ≡ None
