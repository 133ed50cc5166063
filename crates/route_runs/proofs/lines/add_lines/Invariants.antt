use Rattle.std.proofs.Common.{◌≡◌, ◌++◌, take}
use Rattle.route_emitter.specs.Lines.{lines}
use Rattle.route_runs.proofs.lines.add_lines.Given as goal

abbrev pub invariant-loop-entry : goal.invariant-loop-entry
invariant-loop-entry l = l.text.items ≡ l.initial.text.items ++ lines l.register (take l.entry-index l.entries)
