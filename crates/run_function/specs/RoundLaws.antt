-- What a round does where nobody else calls.
use Rattle.std.specs.Prelude.{◌≡◌, List}
use Rattle.std.specs.List.{Contains}
use Rattle.bbs_model.specs.PortView.{IsQuiet, PortView}
use Rattle.cell_rep.specs.Laws.{HasStore}
use Rattle.cell_rep.specs.declared.rep.CellRep.{CellRep}
use Rattle.convergence.specs.declared.report.Report.{Report}
use Rattle.converge_round.specs.Askings.{StandApart}
use Rattle.converge_round.specs.Reps.{names_of}
use Rattle.crash_backoff.specs.declared.moment.Moment.{Moment}
use Rattle.phase_runs.specs.Rounds.{RoundOf}
use Rattle.scenario_lines.specs.declared.script.RoundLine.{RoundLine}
use Rattle.run_function.specs.Boards.{board_seen}
use Rattle.run_function.specs.WholeRounds.{round_alone, sole_round}

-- no two reps are of one cell, and each that has joined has a store
pub record AreReps (reps : List CellRep) : Type 0 where
  pub apart : StandApart (names_of reps)
  pub stores : (r : CellRep) → Contains reps r → HasStore r.joined

-- a round has the report, the board and the reps of one that is alone
abbrev pub RoundsAreAlone : Type 0
RoundsAreAlone = (now : Moment) (line : RoundLine) (reps reps' : List CellRep) (v w : PortView) (r : Report) →
    RoundOf now line reps reps' v w r → IsQuiet v w → AreReps reps →
    round_alone line 0 now reps (board_seen v) ≡ sole_round r (board_seen w) reps'
