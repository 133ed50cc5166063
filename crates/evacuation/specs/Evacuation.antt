-- How a cell is emptied.
use Rattle.std.specs.Prelude.{◌≡◌, ℕ, Bool, true, false, List, [], ◌∷◌, ◌++◌, MatchBool}
use Rattle.bbs_model.specs.declared.reply.Reply.TheVariants as reply
use Rattle.cell_records.specs.declared.container.Container.{Container}
use Rattle.cell_rep.specs.Acts.{drain_todo}
use Rattle.cell_rep.specs.Follows.{Stage, Performs, Acts}
use Rattle.cell_rep.specs.Reps.{containers_of}
use Rattle.cell_rep.specs.declared.call_end.CallEnd.{CallEnd}
use Rattle.cell_rep.specs.declared.call_end.CallEnd.TheVariants.{Got, Fault, CallLost, ReplyLost, Local, Idle}
use Rattle.cell_rep.specs.declared.call_end.Called.{Called}
use Rattle.cell_rep.specs.declared.cell_act.CellAct.TheVariants as act
use Rattle.cell_rep.specs.declared.rep.CellRep.{CellRep}
use Rattle.crash_backoff.specs.declared.moment.Moment.{Moment}

-- the board did what was asked, or had done it, and that was heard
abbrev pub is_agreed : CallEnd → Bool
is_agreed (Got (reply.Ok place stamp)) = true
is_agreed (Got (reply.Same place)) = true
is_agreed (Got (reply.Refused why place)) = false
is_agreed (Fault why) = false
is_agreed CallLost = false
is_agreed (ReplyLost answer) = false
is_agreed (Local why) = false
is_agreed Idle = false

-- the drain was made, with that answer behind the others
pub record HasDrained (by : ℕ) (now : Moment) (s m : Stage) (answer : Called) : Type 0 where
  pub out_is : m.out ≡ s.out ++ answer ∷ []
  pub performs : Performs by s.rep.cell (drain_todo now s.rep.cell s.rep.joined ∷ []) s m

-- the drain was made, and then the settle, if the board agreed to the drain
pub record Evacuates (by : ℕ) (now : Moment) (s w : Stage) : Type 0 where
  pub middle : Stage
  pub answer : Called
  pub drained : HasDrained by now s middle answer
  pub settled : MatchBool (is_agreed answer.end) (Acts by act.Settle now middle w) (w ≡ middle)

-- memory ran out between the two: the drain stands, to which the board agreed, and nothing else was done
pub record StopsBetween (by : ℕ) (now : Moment) (s w : Stage) : Type 0 where
  pub answer : Called
  pub drained : HasDrained by now s w answer
  pub agreed : is_agreed answer.end ≡ true

-- there is no container
abbrev pub is_nothing : List Container → Bool
is_nothing [] = true
is_nothing (c ∷ cs) = false

-- nothing stands on the cell: whether it is being emptied isn't asked
abbrev pub is_drained : CellRep → Bool
is_drained rep = is_nothing (containers_of rep)
