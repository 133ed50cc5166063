use Rattle.std.proofs.Common.{◌≡◌, ◌++◌, take}
use Rattle.std.specs.List.{flat_map}
use Rattle.headroom_print.specs.DrainLines.{step_lines}
use Rattle.headroom_print.proofs.line_kinds.drain.add_steps.Given as goal

abbrev pub invariant-loop-step : goal.invariant-loop-step
invariant-loop-step l =
    l.text.items ≡ l.fn.text.items ++ flat_map (step_lines l.line) (take l.step-index l.steps)
