-- What a call of a pair answers and does.
use Rattle.std.specs.Prelude.{◌≡◌, ◌⊎◌, ◌↔◌, ℕ, ◌<◌, max, Bool, true, false, List, [], ◌∷◌, ◌++◌, length, map, Option, Some, None, Result, Ok, Err}
use Rattle.byte_ports.specs.Cause.{HasCause}
use Rattle.bbs_board.specs.Calls.{Grows}
use Rattle.bbs_board.specs.View.{View, rows_of}
use Rattle.bbs_model.specs.Calls.{added, is_done}
use Rattle.bbs_model.specs.Step.{verdict_of}
use Rattle.bbs_model.specs.declared.command.Command.{Command}
use Rattle.bbs_model.specs.declared.item.Item.{Item}
use Rattle.bbs_model.specs.declared.item.Item.TheVariants.{Done, Doubt}
use Rattle.bbs_model.specs.declared.reply.Reply.{Reply}
use Rattle.bbs_model.specs.declared.reply.Reply.TheVariants as reply
use Rattle.bbs_model.specs.declared.verdict.Verdict.{Verdict}
use Rattle.bbs_model.specs.declared.verdict.Verdict.TheVariants as verdict
use Rattle.standby_board.specs.Pairs.{PairView, owed}
use Rattle.standby_board.specs.declared.answers.PairFault.{PairFault}
use Rattle.standby_board.specs.declared.answers.PairFault.TheVariants as fault
use Rattle.standby_board.specs.declared.answers.PairReply.{PairReply}
use Rattle.standby_board.specs.declared.answers.PairReply.TheVariants as pair

-- how a call of a pair has ended
abbrev pub End : Type 0
End = Result PairReply PairFault

-- a number was shown where this one was the greatest: the greater of both is kept, whatever the call came to; and the
-- answer is that it is stale exactly where it is the smaller one
pub record ShowsFence (number : ℕ) (end : End) (before after : ℕ) : Type 0 where
  pub greatest : after ≡ max before number
  pub stale : (end ≡ Ok (pair.StaleFence before)) ↔ (number < before)

-- the answer of a step of the primary that comes to this verdict, at this place of its log and with so many transitions
-- in its life; a command that it stored is answered Ok only where the standby has stored it too
abbrev pub Decides : Verdict → ℕ → ℕ → End → Type 0
Decides verdict.Ok place stamp end =
    (end ≡ Ok (pair.Reply (reply.Ok place stamp))) ⊎ ((end ≡ Err (fault.Disk place)) ⊎ (end ≡ Err (fault.Behind place)))
Decides verdict.Same place stamp end = end ≡ Ok (pair.Reply (reply.Same place))
Decides (verdict.Refused why) place stamp end = end ≡ Ok (pair.Reply (reply.Refused why place))

-- how a call with a number that isn't stale may end: so, or the primary wasn't called, since the standby's disk failed
-- before or there was no memory
abbrev pub Answers : Verdict → ℕ → ℕ → End → Type 0
Answers verdict place stamp end =
    Decides verdict place stamp end ⊎ ((end ≡ Err (fault.StandbyDisk place)) ⊎ (end ≡ Err fault.OutOfMemory))

-- the items that a call adds to the primary's log, by its end
abbrev pub gained : End → ℕ → Command → List Item
gained (Ok (pair.Reply r)) by c = added (Ok r) by c
gained (Ok (pair.StaleFence greatest)) by c = []
gained (Err (fault.Disk place)) by c = Doubt by c ∷ []
gained (Err (fault.StandbyDisk place)) by c = []
gained (Err (fault.Behind place)) by c = Done by c ∷ []
gained (Err fault.OutOfMemory) by c = []

-- the primary has stored the command
abbrev pub is_stored : End → Bool
is_stored (Ok (pair.Reply r)) = is_done (Ok r)
is_stored (Ok (pair.StaleFence greatest)) = false
is_stored (Err (fault.Disk place)) = false
is_stored (Err (fault.StandbyDisk place)) = false
is_stored (Err (fault.Behind place)) = true
is_stored (Err fault.OutOfMemory) = false

-- both boards have stored the command
abbrev pub is_acknowledged : End → Bool
is_acknowledged (Ok (pair.Reply r)) = is_done (Ok r)
is_acknowledged (Ok (pair.StaleFence greatest)) = false
is_acknowledged (Err why) = false

-- the primary's disk failed in the call
abbrev pub is_primary_fault : End → Bool
is_primary_fault (Ok r) = false
is_primary_fault (Err (fault.Disk place)) = true
is_primary_fault (Err (fault.StandbyDisk place)) = false
is_primary_fault (Err (fault.Behind place)) = false
is_primary_fault (Err fault.OutOfMemory) = false

-- the standby's disk failed in the call
abbrev pub is_standby_fault : End → Bool
is_standby_fault (Ok r) = false
is_standby_fault (Err (fault.Disk place)) = false
is_standby_fault (Err (fault.StandbyDisk place)) = true
is_standby_fault (Err (fault.Behind place)) = true
is_standby_fault (Err fault.OutOfMemory) = false

-- what was missing on the standby was tried there, and is missing still
pub record FailsAgain (before after : Option (ℕ × Command)) (stored : List Item) : Type 0 where
  pub lacked : ℕ × Command
  pub before_is : before ≡ Some lacked
  pub after_is : after ≡ before
  pub stored_is : stored ≡ Doubt lacked.0 lacked.1 ∷ []

-- the items that a call adds to the standby's log, and what is missing there before and after it: what was missing
-- comes
-- first, and then the command, where the primary has stored it
abbrev pub Follows : End → ℕ → Command → Option (ℕ × Command) → Option (ℕ × Command) → List Item → Type 0
Follows (Ok (pair.Reply r)) by c before after stored = (after ≡ None) × (stored ≡ owed before ++ added (Ok r) by c)
Follows (Ok (pair.StaleFence greatest)) by c before after stored = (after ≡ before) × (stored ≡ [])
Follows (Err (fault.Disk place)) by c before after stored = (after ≡ None) × (stored ≡ owed before)
Follows (Err (fault.StandbyDisk place)) by c before after stored = FailsAgain before after stored
Follows (Err (fault.Behind place)) by c before after stored =
    (after ≡ Some (by, c)) × (stored ≡ owed before ++ Doubt by c ∷ [])
Follows (Err fault.OutOfMemory) by c before after stored =
    ((after ≡ before) × (stored ≡ [])) ⊎ ((after ≡ None) × (stored ≡ owed before))

-- the standby's log gained these items; without one nothing but its room has changed; and where the call was
-- acknowledged the mark of the last one is the clock of its disk at the end of the call
pub record Copies {E : Type 0} (moment : E → ℕ) (both : Bool) (stored : List Item) (old new : View E) : Type 0 where
  pub log : new.log ≡ old.log ++ stored
  pub idle : stored ≡ [] → new ≡ record old { spare = new.spare }
  pub earlier : List ℕ
  pub later : List ℕ
  pub marks : new.marks ≡ old.marks ++ earlier ++ later
  pub acknowledged : both ≡ true → later ≡ moment new.disk ∷ []

module _ {D E : Type 0} where
  -- what a call with a number that isn't stale does: the primary's step decides, its items come behind its log, each
  -- with this number, and the standby follows
  pub record IsPairCall (moment : D → ℕ) (moment' : E → ℕ) (number by : ℕ) (command : Command)
      (old new : PairView D E) (end : End) : Type 0 where
    pub answers : Answers (verdict_of (rows_of old.primary) command) (length old.primary.log)
        (rows_of old.primary).next end
    pub primary : Grows (is_stored end) (gained end by command) (moment new.primary.disk) old.primary new.primary
    pub numbers : new.fence.numbers ≡ old.fence.numbers ++ map (λ item. number) (gained end by command)
    pub stored : List Item
    pub standby : Copies moment' (is_acknowledged end) stored old.standby new.standby
    pub follows : Follows end by command old.missing new.missing stored

  -- the cause of each fault: each count of faults has risen where its disk failed, and stands where it didn't
  pub record HasCauses (fault_count : D → ℕ) (fault_count' : E → ℕ) (end : End) (old new : PairView D E) : Type 0 where
    pub primary : HasCause (is_primary_fault end) (fault_count old.primary.disk) (fault_count new.primary.disk)
    pub standby : HasCause (is_standby_fault end) (fault_count' old.standby.disk) (fault_count' new.standby.disk)

  -- the same pair: it was started with the same boards and the same floor
  pub record IsSamePair (old new : PairView D E) : Type 0 where
    pub primary : new.primary_start ≡ old.primary_start
    pub standby : new.standby_start ≡ old.standby_start
    pub floor : new.fence.floor ≡ old.fence.floor
