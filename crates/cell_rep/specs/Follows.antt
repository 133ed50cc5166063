-- An actor's calls, one after another, and what their ends do to it.
use Rattle.std.specs.Prelude.{◌≡◌, ◌⊎◌, ℕ, Bool, List, [], ◌∷◌, ◌++◌, Option, Some, None}
use Rattle.std.specs.List.{list_any}
use Rattle.byte_ports.specs.Cause.{HasCause}
use Rattle.bbs_model.specs.PortView.{PortView}
use Rattle.crash_backoff.specs.declared.moment.Moment.{Moment}
use Rattle.bbs_model.specs.declared.reply.CallFault.TheVariants as fault
use Rattle.cell_records.specs.declared.job.Job.{Job}
use Rattle.cell_rep.specs.Acts.{begun, plan, job_begun, job_todo}
use Rattle.cell_rep.specs.Deliveries.{is_call_lost, IsDelivered, end_now, EndFits, moved}
use Rattle.cell_rep.specs.Ends.{left}
use Rattle.cell_rep.specs.Wires.{WireEnds}
use Rattle.cell_rep.specs.declared.call_end.CallEnd.{CallEnd}
use Rattle.cell_rep.specs.declared.call_end.CallEnd.TheVariants as end
use Rattle.cell_rep.specs.declared.call_end.Called.{Called}
use Rattle.cell_rep.specs.declared.cell_act.CellAct.{CellAct}
use Rattle.cell_rep.specs.declared.rep.CellRep.{CellRep}
use Rattle.cell_rep.specs.declared.todo.Todo.{Todo}
use Rattle.cell_rep.specs.declared.todo.Todo.TheVariants.{Call, Idle, Local}

-- what an answer tells of what was to be done
abbrev pub IsAnswer : Todo → Called → Type 0
IsAnswer (Call c) a = a.command ≡ Some c
IsAnswer Idle a = a ≡ record { command = None; end = end.Idle }
IsAnswer (Local why) a = a ≡ record { command = None; end = end.Local why }

-- how it ended, from one view of the board to another
abbrev pub EndsOf : ℕ → List ℕ → Option WireEnds → Todo → PortView → Called → PortView → Type 0
EndsOf by actor ends (Call c) v a w = EndFits (end_now ends actor) a.end × IsDelivered by v c a.end w
EndsOf by actor ends Idle v a w = w ≡ v
EndsOf by actor ends (Local why) v a w = w ≡ v

-- the rep after it
abbrev pub after_todo : Todo → CallEnd → CellRep → CellRep
after_todo (Call c) e rep = left c.op e rep
after_todo Idle e rep = rep
after_todo (Local why) e rep = rep

-- the ends that the wire tells after it
abbrev pub moved_by : Todo → Option WireEnds → Option WireEnds
moved_by (Call c) ends = moved ends
moved_by Idle ends = ends
moved_by (Local why) ends = ends

-- the rep and the board after what was to be done, in order, with these answers
abbrev pub Follows : ℕ → List ℕ → Option WireEnds → List Todo → CellRep → PortView → List Called → CellRep → PortView → Type 0
Follows by actor ends [] rep v [] rep' w = (rep' ≡ rep) × (w ≡ v)
Follows by actor ends [] rep v (a ∷ as') rep' w = ⊥
Follows by actor ends (t ∷ ts) rep v [] rep' w = ⊥
Follows by actor ends (t ∷ ts) rep v (a ∷ as') rep' w =
    (m : PortView) × IsAnswer t a × EndsOf by actor ends t v a m
    × Follows by actor (moved_by t ends) ts (after_todo t a.end rep) m as' rep' w

-- some answer of these was lost, or its call
abbrev pub is_any_lost : List Called → Bool
is_any_lost as' = list_any (λ a. is_call_lost a.end) as'

-- the ends that the wire tells after all of it
abbrev pub moved_all : List Todo → Option WireEnds → Option WireEnds
moved_all [] ends = ends
moved_all (t ∷ ts) ends = moved_all ts (moved_by t ends)

-- what calls change: the rep, what it has seen of the board, what the wire tells and has lost, the answers so far
pub record Stage : Type 0 where
  pub rep : CellRep
  pub view : PortView
  pub ends : Option WireEnds
  pub losses : ℕ
  pub out : List Called

-- these five
abbrev pub stage : CellRep → PortView → Option WireEnds → ℕ → List Called → Stage
stage rep view ends losses out =
    record { rep = rep; view = view; ends = ends; losses = losses; out = out }

-- an actor did what was to be done, and its answers stand behind those that were there
pub record Performs (by : ℕ) (actor : List ℕ) (ts : List Todo) (s s' : Stage) : Type 0 where
  pub new : List Called
  pub out_is : s'.out ≡ s.out ++ new
  pub follows : Follows by actor s.ends ts s.rep s.view new s'.rep s'.view
  pub ends_are : s'.ends ≡ moved_all ts s.ends
  pub cause : HasCause (is_any_lost new) s.losses s'.losses

-- an act: what it does at once, and then its calls
abbrev pub Acts : ℕ → CellAct → Moment → Stage → Stage → Type 0
Acts by a now s s' =
    Performs by s.rep.cell (plan a now s.rep) (record s { rep = begun a s.rep }) s'

-- the answer to what was to be done
abbrev pub answer_to : Todo → CallEnd → Called
answer_to (Call c) e = record { command = Some c; end = e }
answer_to Idle e = record { command = None; end = e }
answer_to (Local why) e = record { command = None; end = e }

-- one thing was done, with that end
pub record IsMade (by : ℕ) (ends : Option WireEnds) (t : Todo) (rep rep' : CellRep) (v w : PortView) (e : CallEnd) : Type 0 where
  pub answer : IsAnswer t (answer_to t e)
  pub ended : EndsOf by rep.cell ends t v (answer_to t e) w
  pub rep_is : rep' ≡ after_todo t e rep

-- the answer where memory ran out before anything was done
abbrev pub starved : Called
starved = record { command = None; end = end.Fault fault.OutOfMemory }

-- a job was started: its container was made room for and told; or memory ran out, and nothing was done
abbrev pub IsStarted : ℕ → Job → Moment → Stage → Stage → Type 0
IsStarted by job now s s' =
    Performs by s.rep.cell (job_todo job now s.rep.cell s.rep.joined ∷ [])
    (record s { rep = job_begun job s.rep s.rep.joined }) s'
    ⊎ (s' ≡ record s { out = s.out ++ starved ∷ [] })
