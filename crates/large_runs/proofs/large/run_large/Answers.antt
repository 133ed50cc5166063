use Rattle.std.proofs.Common.{sym, subst, List, ℕ}
use Rattle.scenario_maker.specs.Generated.{generated}
use Rattle.large_runs.specs.Large.{TextEnds}
use Rattle.large_runs.proofs.Printed.{printed}
use Rattle.large_runs.proofs.large.run_large.Goals as goal

pub returns-in-Done : goal.returns-in-Done
returns-in-Done g c =
    let e = c.run_number-ended.result in
    printed c.args.number e _ _ _ _ c.print_summary.result c.bytes.result.now e.ending c.in-Done.is
    (subst (λ (bytes : List ℕ). TextEnds (generated c.args.number) e.ending e bytes) (sym c.bytes.ensures)
    c.run_number-ended.ensures)
    c.print_summary.ensures
