-- What is kept of the phases that were told.
use Rattle.std.specs.Prelude.{ℕ, List, []}
use Rattle.convergence.specs.declared.report.Report.{Report}
use Rattle.scenario_lines.specs.declared.answered.Answered.{Answered}

-- their answers and their reports, phase after phase, and how many they are
pub record KeptSoFar : Type 0 where
  pub answers : List Answered
  pub reports : List Report
  pub phases : ℕ

-- before the first
abbrev pub nothing_kept : KeptSoFar
nothing_kept = record { answers = []; reports = []; phases = 0 }
