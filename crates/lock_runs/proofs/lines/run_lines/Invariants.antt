use Rattle.std.proofs.Common.{Ok, take}
use Rattle.lock_runs.specs.Lines.{RunsOn}
use Rattle.lock_runs.proofs.lines.run_lines.Given as goal

abbrev pub invariant-loop-line : goal.invariant-loop-line
invariant-loop-line g l =
    RunsOn g.D.Disk.told g.D.Disk.fault_count (take l.line-index l.lines)
    (Ok tt) l.fn.answers.items l.answers.items l.fn.locket l.locket
