-- What an actor does for its lines where nobody else calls the board.
use Rattle.std.specs.Prelude.{ℕ, List, [], ◌∷◌, ◌++◌, map, Option, Some}
use Rattle.bbs_model.specs.Work.{at}
use Rattle.bbs_model.specs.declared.command.Command.{Command}
use Rattle.cell_rep.specs.declared.call_end.Called.{Called}
use Rattle.cell_rep.specs.declared.rep.CellRep.{CellRep}
use Rattle.crash_backoff.specs.declared.moment.Moment.{Moment}
use Rattle.scenario_lines.specs.declared.act.Act.{Act}
use Rattle.scenario_lines.specs.declared.act.Act.TheVariants as act
use Rattle.scenario_lines.specs.declared.act.Loss.{Loss}
use Rattle.scenario_lines.specs.declared.answered.Answered.{Answered}
use Rattle.scenario_lines.specs.declared.script.Line.{Line}
use Rattle.phase_actors.specs.Marks.{delivery_under, ends_from}
use Rattle.phase_actors.specs.Turns.{Turn, line_answer, turns_in}
use Rattle.phase_actors.specs.declared.actor_state.ActorState.{ActorState}
use Rattle.phase_actors.specs.declared.actor_state.ActorState.TheVariants as actor
use Rattle.run_function.specs.Acts.{SoleRep, act_alone, evacuate_alone}
use Rattle.run_function.specs.Boards.{SoleBoard, delivered_alone, end_under, reply_alone}

-- an actor, the board that it alone calls, and the calls of a run with their ends
pub record SoleRun : Type 0 where
  pub actor : ActorState
  pub board : SoleBoard
  pub calls : List Called

-- these three
abbrev pub sole_run : ActorState → SoleBoard → List Called → SoleRun
sole_run a b calls = record { actor = a; board = b; calls = calls }

-- a client makes its call, once
abbrev pub ask_alone : ℕ → Command → Option Loss → List ℕ → SoleBoard → SoleRun
ask_alone by c mark name b =
    sole_run (actor.Client name) (delivered_alone (delivery_under mark) by c b)
    (record { command = Some c; end = end_under (delivery_under mark) (reply_alone b c) } ∷ [])

-- a rep at the start of a run, whose wire is to lose so
abbrev pub rep_under : Option Loss → CellRep → SoleBoard → SoleRep
rep_under mark rep b = record { rep = rep; board = b; ends = ends_from (delivery_under mark); out = [] }

-- what a rep did in a run
abbrev pub rep_run : SoleRep → SoleRun
rep_run s = sole_run (actor.Cell s.rep) s.board s.out

-- one run of an act: a client asks and a cell acts, and nobody does what isn't its to do
abbrev pub run_alone : ℕ → Moment → Act → Option Loss → ActorState → SoleBoard → SoleRun
run_alone by now (act.Client op) mark (actor.Client name) b = ask_alone by (at now op) mark name b
run_alone by now (act.Client op) mark (actor.Cell rep) b = sole_run (actor.Cell rep) b []
run_alone by now (act.Cell a) mark (actor.Client name) b = sole_run (actor.Client name) b []
run_alone by now (act.Cell a) mark (actor.Cell rep) b = rep_run (act_alone by a now (rep_under mark rep b))
run_alone by now act.Evacuate mark (actor.Client name) b = sole_run (actor.Client name) b []
run_alone by now act.Evacuate mark (actor.Cell rep) b = rep_run (evacuate_alone by now (rep_under mark rep b))

-- an actor, the board that it alone calls, and its answers so far
pub record SoleActor : Type 0 where
  pub actor : ActorState
  pub board : SoleBoard
  pub out : List Answered

-- these three
abbrev pub sole_actor : ActorState → SoleBoard → List Answered → SoleActor
sole_actor a b out = record { actor = a; board = b; out = out }

-- an actor after a run to a line, whose answers stand behind the others
abbrev pub behind_run : ℕ → ℕ → List Answered → SoleRun → SoleActor
behind_run by line out r = sole_actor r.actor r.board (out ++ map (line_answer by line) r.calls)

-- one run more
abbrev pub turn_alone : ℕ → Moment → Turn → SoleActor → SoleActor
turn_alone by now t s = behind_run by t.line s.out (run_alone by now t.act t.mark s.actor s.board)

-- runs in order
abbrev pub turns_alone : ℕ → Moment → List Turn → SoleActor → SoleActor
turns_alone by now [] s = s
turns_alone by now (t ∷ ts) s = turns_alone by now ts (turn_alone by now t s)

-- all the lines of an actor among these
abbrev pub actor_alone : ℕ → Moment → List Line → ActorState → SoleBoard → SoleActor
actor_alone by now lines a b = turns_alone by now (turns_in by lines) (sole_actor a b [])
