-- What an actor does in a phase, by the ends of its calls alone: which calls follow, and what the cell is after them.
use Rattle.std.specs.Prelude.{◌≡◌, ◌⊎◌, ℕ, List, [], ◌∷◌, ◌++◌, map, MatchBool, Option, Some}
use Rattle.bbs_model.specs.Work.{at}
use Rattle.bbs_model.specs.declared.command.Command.{Command}
use Rattle.cell_rep.specs.Acts.{begun, drain_todo, plan}
use Rattle.cell_rep.specs.Deliveries.{end_now, EndFits}
use Rattle.cell_rep.specs.Follows.{after_todo, IsAnswer, moved_all, moved_by}
use Rattle.cell_rep.specs.Wires.{WireEnds}
use Rattle.cell_rep.specs.declared.call_end.CallEnd.{CallEnd}
use Rattle.cell_rep.specs.declared.call_end.Called.{Called}
use Rattle.cell_rep.specs.declared.cell_act.CellAct.TheVariants as cell
use Rattle.cell_rep.specs.declared.rep.CellRep.{CellRep}
use Rattle.cell_rep.specs.declared.todo.Todo.{Todo}
use Rattle.cell_rep.specs.declared.todo.Todo.TheVariants.{Call, Idle, Local}
use Rattle.crash_backoff.specs.declared.moment.Moment.{Moment}
use Rattle.evacuation.specs.Evacuation.{is_agreed}
use Rattle.scenario_lines.specs.declared.act.Act.{Act}
use Rattle.scenario_lines.specs.declared.act.Act.TheVariants as act
use Rattle.scenario_lines.specs.declared.act.Loss.{Loss}
use Rattle.scenario_lines.specs.declared.answered.Answered.{Answered}
use Rattle.phase_actors.specs.Marks.{delivery_under, ends_under}
use Rattle.phase_actors.specs.Runs.{AsCell}
use Rattle.phase_actors.specs.Turns.{line_answer, Turn}
use Rattle.phase_actors.specs.declared.actor_state.ActorState.{ActorState}
use Rattle.phase_actors.specs.declared.actor_state.ActorState.TheVariants as actor

-- a call is lost where the wire tells it
abbrev pub FitsWire : List ℕ → Option WireEnds → Todo → CallEnd → Type 0
FitsWire cell ends (Call c) end = EndFits (end_now ends cell) end
FitsWire cell ends Idle end = Unit {0}
FitsWire cell ends (Local why) end = Unit {0}

-- a cell's rep did what was to be done, in order, with these ends, each of which left it as it says
abbrev pub HasDone : List ℕ → Option WireEnds → List Todo → CellRep → List Called → CellRep → Type 0
HasDone cell ends [] rep [] rep' = rep' ≡ rep
HasDone cell ends [] rep (a ∷ as') rep' = ⊥
HasDone cell ends (t ∷ ts) rep [] rep' = ⊥
HasDone cell ends (t ∷ ts) rep (a ∷ as') rep' =
    IsAnswer t a × FitsWire cell ends t a.end × HasDone cell (moved_by t ends) ts (after_todo t a.end rep) as' rep'

-- a client made its call
pub record HasCalled (c : Command) (mark : Option Loss) (calls : List Called) : Type 0 where
  pub end : CallEnd
  pub fits : EndFits (Some (delivery_under mark)) end
  pub calls_are : calls ≡ record { command = Some c; end = end } ∷ []

-- a rep told the board that its cell is being emptied
abbrev pub HasDrainedUnder : Moment → Option Loss → CellRep → Called → CellRep → Type 0
HasDrainedUnder now mark rep drain mid =
    HasDone rep.cell (ends_under mark) (drain_todo now rep.cell rep.joined ∷ []) rep (drain ∷ []) mid

-- what the wire tells behind that
abbrev pub ends_after_drain : Moment → Option Loss → CellRep → Option WireEnds
ends_after_drain now mark rep = moved_all (drain_todo now rep.cell rep.joined ∷ []) (ends_under mark)

-- and it settled each of its containers, if the board agreed to that
pub record HasEmptied (now : Moment) (mark : Option Loss) (rep : CellRep) (calls : List Called)
    (rep' : CellRep) : Type 0 where
  pub drain : Called
  pub mid : CellRep
  pub drained : HasDrainedUnder now mark rep drain mid
  pub behind : List Called
  pub calls_are : calls ≡ drain ∷ behind
  pub settled : MatchBool (is_agreed drain.end)
      (HasDone mid.cell (ends_after_drain now mark rep) (plan cell.Settle now mid) (begun cell.Settle mid) behind rep')
      ((behind ≡ []) × (rep' ≡ mid))

-- an actor did an act once, under the mark of what is lost of it
abbrev pub DoesOnce : Moment → Act → Option Loss → ActorState → List Called → ActorState → Type 0
DoesOnce now (act.Client op) mark (actor.Client name) calls a' =
    (a' ≡ actor.Client name) × HasCalled (at now op) mark calls
DoesOnce now (act.Client op) mark (actor.Cell rep) calls a' = ⊥
DoesOnce now (act.Cell c) mark (actor.Client name) calls a' = ⊥
DoesOnce now (act.Cell c) mark (actor.Cell rep) calls a' =
    AsCell a' (λ rep'. HasDone rep.cell (ends_under mark) (plan c now rep) (begun c rep) calls rep')
DoesOnce now act.Evacuate mark (actor.Client name) calls a' = ⊥
DoesOnce now act.Evacuate mark (actor.Cell rep) calls a' = AsCell a' (λ rep'. HasEmptied now mark rep calls rep')

-- an actor did all of these runs of lines, with these answers
abbrev pub DoesTurns : ℕ → Moment → List Turn → ActorState → List Answered → ActorState → Type 0
DoesTurns by now [] a answers a' = (answers ≡ []) × (a' ≡ a)
DoesTurns by now (t ∷ ts) a answers a' =
    (calls : List Called) × (rest : List Answered) × (mid : ActorState)
    × (answers ≡ map (line_answer by t.line) calls ++ rest)
    × DoesOnce now t.act t.mark a calls mid × DoesTurns by now ts mid rest a'

-- of an evacuation the drain alone was made
abbrev pub DrainsAlone : Moment → Act → Option Loss → ActorState → Called → ActorState → Type 0
DrainsAlone now (act.Client op) mark a drain a' = ⊥
DrainsAlone now (act.Cell c) mark a drain a' = ⊥
DrainsAlone now act.Evacuate mark (actor.Client name) drain a' = ⊥
DrainsAlone now act.Evacuate mark (actor.Cell rep) drain a' = AsCell a' (λ rep'. HasDrainedUnder now mark rep drain rep')

-- nothing was done of these runs, or the drain of the first, which is an evacuation
abbrev pub DoesNoneWhole : ℕ → Moment → List Turn → ActorState → List Answered → ActorState → Type 0
DoesNoneWhole by now [] a answers a' = (answers ≡ []) × (a' ≡ a)
DoesNoneWhole by now (t ∷ ts) a answers a' =
    ((answers ≡ []) × (a' ≡ a))
    ⊎ ((drain : Called) × (answers ≡ line_answer by t.line drain ∷ []) × DrainsAlone now t.act t.mark a drain a')

-- an actor did the first of these runs, and the next in part at most
pub record DoesFirst (by : ℕ) (now : Moment) (ts : List Turn) (a : ActorState) (answers : List Answered)
    (a' : ActorState) : Type 0 where
  pub done : List Turn
  pub rest : List Turn
  pub split : ts ≡ done ++ rest
  pub first : List Answered
  pub behind : List Answered
  pub answers_are : answers ≡ first ++ behind
  pub mid : ActorState
  pub did : DoesTurns by now done a first mid
  pub cut : DoesNoneWhole by now rest mid behind a'
