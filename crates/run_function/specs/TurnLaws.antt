-- What actors do for their lines where nobody else calls.
use Rattle.std.specs.Prelude.{◌≡◌, ℕ, false, List, [], Option}
use Rattle.bbs_model.specs.PortView.{PortView}
use Rattle.cell_rep.specs.declared.call_end.Called.{Called}
use Rattle.crash_backoff.specs.declared.moment.Moment.{Moment}
use Rattle.scenario_lines.specs.declared.act.Act.{Act}
use Rattle.scenario_lines.specs.declared.act.Loss.{Loss}
use Rattle.scenario_lines.specs.declared.answered.Answered.{Answered}
use Rattle.phase_actors.specs.Runs.{HasRun, is_any_starved}
use Rattle.phase_actors.specs.Turns.{TakesTurns, Turn, is_any_unfed}
use Rattle.phase_actors.specs.declared.actor_state.ActorState.{ActorState}
use Rattle.run_function.specs.Boards.{board_seen}
use Rattle.run_function.specs.Quiet.{StaysCalm}
use Rattle.run_function.specs.Turns.{run_alone, sole_actor, sole_run, turns_alone}

-- a run in which no call wants memory has the actor, the board and the answers of one that is alone
abbrev pub LinesAreRunAlone : Type 0
LinesAreRunAlone = (by : ℕ) (now : Moment) (act : Act) (mark : Option Loss) (a a' : ActorState) (v w : PortView) (new : List Called) →
    HasRun by now act mark a a' v w new → StaysCalm v w → is_any_starved new ≡ false →
    run_alone by now act mark a (board_seen v) ≡ sole_run a' (board_seen w) new

-- so have runs one after another
abbrev pub TurnsAreAlone : Type 0
TurnsAreAlone = (by : ℕ) (now : Moment) (ts : List Turn) (a a' : ActorState) (v w : PortView) (new : List Answered) →
    TakesTurns by now ts a v new a' w → StaysCalm v w → is_any_unfed new ≡ false →
    turns_alone by now ts (sole_actor a (board_seen v) []) ≡ sole_actor a' (board_seen w) new
