-- How jobs are started on cells.
use Rattle.std.specs.Prelude.{◌≡◌, ℕ, Bool, true, false, List, [], ◌∷◌, ◌++◌, map, Option, Some, None, Ok, Err}
use Rattle.std.specs.List.{Contains}
use Rattle.cell_records.specs.declared.job.Job.{Job}
use Rattle.cell_rep.specs.Acts.{claim_op}
use Rattle.cell_rep.specs.Follows.{stage, IsStarted}
use Rattle.cell_rep.specs.declared.call_end.CallEnd.{CallEnd}
use Rattle.cell_rep.specs.declared.call_end.CallEnd.TheVariants.{Got, Fault, CallLost, ReplyLost, Local, Idle}
use Rattle.cell_rep.specs.declared.call_end.Called.{Called}
use Rattle.cell_rep.specs.declared.rep.CellRep.{CellRep}
use Rattle.cell_rep.specs.declared.wire.CallKind.TheVariants as kind
use Rattle.crash_backoff.specs.declared.moment.Moment.{Moment}
use Rattle.diego_names.specs.declared.instance.Instance.{Instance}
use Rattle.bbs_model.specs.PortView.{PortView}
use Rattle.bbs_model.specs.Work.{at}
use Rattle.bbs_model.specs.declared.command.Command.{Command}
use Rattle.bbs_model.specs.declared.reply.CallFault.{CallFault}
use Rattle.bbs_model.specs.declared.reply.Reply.{Reply}
use Rattle.converge_round.specs.Each.{Each}
use Rattle.converge_round.specs.Sendings.{WireAt, IsSent}
use Rattle.converge_round.specs.Tallies.{noted, lost_one}
use Rattle.converge_round.specs.declared.claims.Claimed.{Claimed}
use Rattle.converge_round.specs.declared.claims.Start.{Start}
use Rattle.converge_round.specs.declared.claims.StartEnd.{StartEnd}
use Rattle.converge_round.specs.declared.claims.StartEnd.TheVariants.{Lost, Made}
use Rattle.converge_round.specs.declared.tally.Tally.{Tally}

-- the reply to a claim counts
abbrev pub answered : Option Command → Reply → Tally → Tally
answered None reply t = t
answered (Some c) reply t = noted c reply t

-- what the end of a start counts; a reply that was lost counts as if it had been heard, and as a loss
abbrev pub counted : Option Command → CallEnd → Tally → Tally
counted c (Got reply) t = answered c reply t
counted c (Fault why) t = t
counted c CallLost t = lost_one t
counted c (ReplyLost (Ok reply)) t = answered c reply (lost_one t)
counted c (ReplyLost (Err why)) t = t
counted c (Local why) t = lost_one t
counted c Idle t = lost_one t

-- what a start counts by its end: one that was lost is a loss
abbrev pub counted_end : StartEnd → Tally → Tally
counted_end Lost t = lost_one t
counted_end (Made a) t = counted a.command a.end t

-- the job of a start
abbrev pub job_of : Claimed → Job
job_of x = x.start.job

-- what starts count, one after another
abbrev pub counted_all : List Claimed → Tally → Tally
counted_all [] t = t
counted_all (x ∷ xs) t = counted_all xs (counted_end x.end t)

-- the fault that a call ended with, heard or not
abbrev pub fault_of : CallEnd → Option CallFault
fault_of (Got reply) = None
fault_of (Fault why) = Some why
fault_of CallLost = None
fault_of (ReplyLost (Ok reply)) = None
fault_of (ReplyLost (Err why)) = Some why
fault_of (Local why) = None
fault_of Idle = None

-- the same of a start, which has none if it was lost
abbrev pub fault_in : StartEnd → Option CallFault
fault_in Lost = None
fault_in (Made a) = fault_of a.end

-- neither the call nor its reply, if it was lost, was a fault
abbrev pub HasNoFault : CallEnd → Type 0
HasNoFault (Got reply) = Unit {0}
HasNoFault (Fault why) = ⊥
HasNoFault CallLost = Unit {0}
HasNoFault (ReplyLost (Ok reply)) = Unit {0}
HasNoFault (ReplyLost (Err why)) = ⊥
HasNoFault (Local why) = Unit {0}
HasNoFault Idle = Unit {0}

-- the command is a claim of that job on that cell
abbrev pub IsClaim : Moment → List ℕ → Job → Command → Type 0
IsClaim now cell job c = (i : Instance) × (c ≡ at now (claim_op cell job.job i))

-- the command is a claim of one of those jobs
abbrev pub IsClaimOfOne : Moment → List ℕ → List Job → Command → Type 0
IsClaimOfOne now cell jobs c = (job : Job) × Contains jobs job × IsClaim now cell job c

-- nor was it at a start that reached the rep
abbrev pub IsFine : StartEnd → Type 0
IsFine Lost = Unit {0}
IsFine (Made a) = HasNoFault a.end

-- nor at any of these
abbrev pub AreFine : List Claimed → Type 0
AreFine [] = Unit {0}
AreFine (x ∷ xs) = IsFine x.end × AreFine xs

-- a job for a cell
abbrev pub start_on : List ℕ → Job → Start
start_on cell job = record { cell = cell; job = job }

-- one rep, what was seen of the board, and the wire
pub record Claiming : Type 0 where
  pub rep : CellRep
  pub view : PortView
  pub wire : WireAt

-- these three
abbrev pub claiming : CellRep → PortView → WireAt → Claiming
claiming rep view wire = record { rep = rep; view = view; wire = wire }

-- a start that reached the rep, with the answer that it ended with
pub record IsStartTaken (by : ℕ) (now : Moment) (job : Job) (wire : WireAt) (s s' : Claiming) (e : StartEnd) : Type 0 where
  pub answer : Called
  pub end_is : e ≡ Made answer
  pub started : IsStarted by job now (stage s.rep s.view wire.ends wire.losses [])
      (stage s'.rep s'.view s'.wire.ends s'.wire.losses (answer ∷ []))

-- a start that was lost
pub record IsMissed (wire : WireAt) (s s' : Claiming) (e : StartEnd) : Type 0 where
  pub end_is : e ≡ Lost
  pub rep : s'.rep ≡ s.rep
  pub view : s'.view ≡ s.view
  pub wire_is : s'.wire ≡ wire

-- a start is taken where it reached the rep
abbrev pub TakesIf : Bool → ℕ → Moment → Job → WireAt → Claiming → Claiming → StartEnd → Type 0
TakesIf true by now job wire s s' e = IsStartTaken by now job wire s s' e
TakesIf false by now job wire s s' e = IsMissed wire s s' e

-- a job is started on a cell, and this is what came of it
pub record StartsOne (by : ℕ) (now : Moment) (x : Claimed) (s s' : Claiming) : Type 0 where
  pub reached : Bool
  pub wire : WireAt
  pub sent : IsSent s.rep.cell kind.Start reached s.wire wire
  pub takes : TakesIf reached by now x.start.job wire s s' x.end

-- jobs are started on a cell in order, and this is what came of each
pub record Claims (by : ℕ) (now : Moment) (jobs : List Job) (s s' : Claiming) (ends : List Claimed) : Type 0 where
  pub starts : map (λ (x : Claimed). x.start) ends ≡ map (start_on s.rep.cell) jobs
  pub each : Each (StartsOne by now) ends s s'

-- one start more, of which no fault came
pub record AddsStart (by : ℕ) (now : Moment) (job : Job) (s s' : Claiming) (ends ends' : List Claimed) : Type 0 where
  pub one : Claimed
  pub start : one.start ≡ start_on s.rep.cell job
  pub fine : IsFine one.end
  pub starts : StartsOne by now one s s'
  pub more : ends' ≡ ends ++ one ∷ []
