use Rattle.std.proofs.Common.{◌≡◌, ◌++◌, map, take}
use Rattle.phase_actors.specs.Turns.{line_answer}
use Rattle.phase_actors.proofs.turn.add_all.Given as goal

abbrev pub invariant-loop-call : goal.invariant-loop-call
invariant-loop-call l =
    l.out.items ≡ l.initial.out.items ++ map (line_answer l.line.actor l.line.line) (take l.call-index l.calls)
