-- One run of a line.
use Rattle.std.specs.Prelude.{◌≡◌, ◌⊎◌, ℕ, Bool, false, List, [], ◌∷◌, Option, Some, Err}
use Rattle.std.specs.List.{list_any}
use Rattle.bbs_model.specs.Calls.{is_starved}
use Rattle.bbs_model.specs.PortView.{PortView}
use Rattle.bbs_model.specs.Work.{at}
use Rattle.bbs_model.specs.declared.command.Command.{Command}
use Rattle.cell_rep.specs.Deliveries.{IsDelivered, EndFits}
use Rattle.cell_rep.specs.Follows.{Stage, stage, Acts}
use Rattle.cell_rep.specs.Wires.{WireEnds}
use Rattle.cell_rep.specs.declared.call_end.CallEnd.{CallEnd}
use Rattle.cell_rep.specs.declared.call_end.CallEnd.TheVariants.{Got, Fault, CallLost, ReplyLost, Local, Idle}
use Rattle.cell_rep.specs.declared.call_end.Called.{Called}
use Rattle.cell_rep.specs.declared.rep.CellRep.{CellRep}
use Rattle.crash_backoff.specs.declared.moment.Moment.{Moment}
use Rattle.evacuation.specs.Evacuation.{Evacuates, StopsBetween}
use Rattle.scenario_lines.specs.declared.act.Act.{Act}
use Rattle.scenario_lines.specs.declared.act.Act.TheVariants as act
use Rattle.scenario_lines.specs.declared.act.Loss.{Loss}
use Rattle.phase_actors.specs.Marks.{delivery_under, ends_under}
use Rattle.phase_actors.specs.declared.actor_state.ActorState.{ActorState}
use Rattle.phase_actors.specs.declared.actor_state.ActorState.TheVariants as actor

-- a client asks and a cell acts
abbrev pub IsActOf : Act → ActorState → Type 0
IsActOf (act.Client op) (actor.Client name) = Unit {0}
IsActOf (act.Client op) (actor.Cell rep) = ⊥
IsActOf (act.Cell a) (actor.Client name) = ⊥
IsActOf (act.Cell a) (actor.Cell rep) = Unit {0}
IsActOf act.Evacuate (actor.Client name) = ⊥
IsActOf act.Evacuate (actor.Cell rep) = Unit {0}

-- the same client, or a rep of the same cell
abbrev pub IsOneActor : ActorState → ActorState → Type 0
IsOneActor (actor.Client name) (actor.Client other) = other ≡ name
IsOneActor (actor.Client name) (actor.Cell rep) = ⊥
IsOneActor (actor.Cell rep) (actor.Client name) = ⊥
IsOneActor (actor.Cell rep) (actor.Cell other) = other.cell ≡ rep.cell

-- the end wants memory, a lost reply's too
abbrev pub is_starved_end : CallEnd → Bool
is_starved_end (Got reply) = false
is_starved_end (Fault why) = is_starved (Err why)
is_starved_end CallLost = false
is_starved_end (ReplyLost answer) = is_starved answer
is_starved_end (Local why) = false
is_starved_end Idle = false

-- some call wanted memory
abbrev pub is_any_starved : List Called → Bool
is_any_starved new = list_any (λ a. is_starved_end a.end) new

-- a client made its call, once, over a wire that was to lose so
pub record HasAsked (by : ℕ) (c : Command) (mark : Option Loss) (v w : PortView) (new : List Called) : Type 0 where
  pub end : CallEnd
  pub fits_mark : EndFits (Some (delivery_under mark)) end
  pub delivered : IsDelivered by v c end w
  pub new_is : new ≡ record { command = Some c; end = end } ∷ []

-- what a rep did over a wire that was to lose so
pub record HasActed (Does : Stage → Stage → Type 0) (mark : Option Loss) (rep rep' : CellRep) (v w : PortView)
    (new : List Called) : Type 0 where
  pub ends : Option WireEnds
  pub losses : ℕ
  pub does : Does (stage rep v (ends_under mark) 0 []) (stage rep' w ends losses new)

-- an evacuation that wanted memory had done nothing, or the drain
abbrev pub IsCutEmptying : ℕ → Moment → Option Loss → CellRep → CellRep → PortView → PortView → List Called → Type 0
IsCutEmptying by now mark rep rep' v w new =
    ((rep' ≡ rep) × ((w ≡ v) × (new ≡ []))) ⊎ HasActed (StopsBetween by now) mark rep rep' v w new

-- the cell is the one with that rep now, which came to be so
abbrev pub AsCell : ActorState → (CellRep → Type 0) → Type 0
AsCell (actor.Client name) Was = ⊥
AsCell (actor.Cell rep) Was = Was rep

-- one run of an act: the actor and the board's view before and after it, and its calls with their ends
abbrev pub HasRun : ℕ → Moment → Act → Option Loss → ActorState → ActorState → PortView → PortView → List Called → Type 0
HasRun by now (act.Client op) mark (actor.Client name) actor' v w new =
    (actor' ≡ actor.Client name) × HasAsked by (at now op) mark v w new
HasRun by now (act.Client op) mark (actor.Cell rep) actor' v w new = ⊥
HasRun by now (act.Cell a) mark (actor.Client name) actor' v w new = ⊥
HasRun by now (act.Cell a) mark (actor.Cell rep) actor' v w new =
    AsCell actor' (λ rep'. HasActed (Acts by a now) mark rep rep' v w new)
HasRun by now act.Evacuate mark (actor.Client name) actor' v w new = ⊥
HasRun by now act.Evacuate mark (actor.Cell rep) actor' v w new =
    AsCell actor' (λ rep'. HasActed (Evacuates by now) mark rep rep' v w new)

-- a run that wanted memory had done nothing, or the drain of an evacuation
abbrev pub IsCutRun : ℕ → Moment → Act → Option Loss → ActorState → ActorState → PortView → PortView → List Called → Type 0
IsCutRun by now (act.Client op) mark a a' v w new = (a' ≡ a) × ((w ≡ v) × (new ≡ []))
IsCutRun by now (act.Cell done) mark a a' v w new = (a' ≡ a) × ((w ≡ v) × (new ≡ []))
IsCutRun by now act.Evacuate mark (actor.Client name) a' v w new = ⊥
IsCutRun by now act.Evacuate mark (actor.Cell rep) a' v w new =
    AsCell a' (λ rep'. IsCutEmptying by now mark rep rep' v w new)
