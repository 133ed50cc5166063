-- The round of a phase.
use Rattle.std.specs.Prelude.{ℕ, List, Option, Some}
use Rattle.bbs_model.specs.PortView.{PortView}
use Rattle.cell_rep.specs.Wires.{WireEnds}
use Rattle.cell_rep.specs.declared.rep.CellRep.{CellRep}
use Rattle.convergence.specs.declared.report.Report.{Report}
use Rattle.converge_round.specs.Rounds.{IsRound, standing}
use Rattle.converge_round.specs.Sendings.{wire_at}
use Rattle.crash_backoff.specs.declared.moment.Moment.{Moment}
use Rattle.scenario_lines.specs.declared.script.RoundLine.{RoundLine}
use Rattle.phase_runs.specs.RoundMarks.{round_ends}

-- a round by the number 0, over a wire that loses what the line says, with this report
pub record RoundOf (now : Moment) (line : RoundLine) (reps reps' : List CellRep) (v w : PortView) (r : Report) : Type 0 where
  pub ends : Option WireEnds
  pub losses : ℕ
  pub round : IsRound 0 now line.line (standing v reps (wire_at (Some (round_ends line)) 0)) (standing w reps' (wire_at ends losses)) r
