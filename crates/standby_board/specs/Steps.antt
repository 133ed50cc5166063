-- The steps of a call of a pair, one by one.
use Rattle.std.specs.Prelude.{◌≡◌, ℕ, ◌≤◌, Bool, true, false, not, List, [], ◌∷◌, ◌++◌, map, Option, Some, None, Result, Ok, Err}
use Rattle.byte_ports.specs.Cause.{HasCause}
use Rattle.bbs_board.specs.View.{View}
use Rattle.bbs_model.specs.declared.command.Command.{Command}
use Rattle.bbs_model.specs.declared.item.Item.{Item}
use Rattle.bbs_model.specs.declared.item.Item.TheVariants.{Done, Doubt}
use Rattle.bbs_model.specs.declared.reply.CallFault.{CallFault}
use Rattle.bbs_model.specs.declared.reply.CallFault.TheVariants as board_fault
use Rattle.bbs_model.specs.declared.reply.Reply.{Reply}
use Rattle.bbs_model.specs.declared.reply.Reply.TheVariants as reply
use Rattle.standby_board.specs.Calls.{End}
use Rattle.standby_board.specs.Pairs.{PairView}
use Rattle.standby_board.specs.declared.answers.PairFault.TheVariants as fault
use Rattle.standby_board.specs.declared.answers.PairReply.TheVariants as pair

-- what the standby lacks after a call of the primary that ended so
abbrev pub lacked_after : Result Reply CallFault → ℕ → Command → Option (ℕ × Command)
lacked_after (Ok (reply.Ok place stamp)) by c = Some (by, c)
lacked_after (Ok (reply.Same place)) by c = None
lacked_after (Ok (reply.Refused why place)) by c = None
lacked_after (Err why) by c = None

-- the answer to a call of the primary that ended so, by whether the standby has stored what it lacked then
abbrev pub told_by : Bool → Result Reply CallFault → End
told_by true (Ok (reply.Ok place stamp)) = Ok (pair.Reply (reply.Ok place stamp))
told_by false (Ok (reply.Ok place stamp)) = Err (fault.Behind place)
told_by ok (Ok (reply.Same place)) = Ok (pair.Reply (reply.Same place))
told_by ok (Ok (reply.Refused why place)) = Ok (pair.Reply (reply.Refused why place))
told_by ok (Err (board_fault.Disk place)) = Err (fault.Disk place)
told_by ok (Err board_fault.OutOfMemory) = Err fault.OutOfMemory

-- the items that the standby's log gains where it makes up for what it lacks, and what it lacks then
abbrev pub TurnsOut : Bool → Option (ℕ × Command) → Option (ℕ × Command) → List Item → Type 0
TurnsOut ok None after tried = (ok ≡ true) × (after ≡ None) × (tried ≡ [])
TurnsOut true (Some m) after tried = (after ≡ None) × (tried ≡ Done m.0 m.1 ∷ [])
TurnsOut false (Some m) after tried = (after ≡ Some m) × (tried ≡ Doubt m.0 m.1 ∷ [])

-- the standby made up for what it lacked, or its disk failed
pub record CatchesUp {E : Type 0} (moment fault_count : E → ℕ) (ok : Bool) (before after : Option (ℕ × Command))
    (old new : View E) : Type 0 where
  pub tried : List Item
  pub turns : TurnsOut ok before after tried
  pub log : new.log ≡ old.log ++ tried
  pub marks : new.marks ≡ old.marks ++ map (λ item. moment new.disk) tried
  pub idle : tried ≡ [] → new ≡ old
  pub cause : HasCause (not ok) (fault_count old.disk) (fault_count new.disk)

module _ {D E : Type 0} where
  -- there is room for one transition on both boards, and for its number
  pub record HasRoom (v : PairView D E) : Type 0 where
    pub primary : 1 ≤ v.primary.spare
    pub standby : 1 ≤ v.standby.spare
    pub fence : 1 ≤ v.fence.room

  -- nothing has changed but the room, of which there is no less
  pub record KeepsAll (old new : PairView D E) : Type 0 where
    pub primary : new.primary ≡ record old.primary { spare = new.primary.spare }
    pub more_primary : old.primary.spare ≤ new.primary.spare
    pub standby : new.standby ≡ record old.standby { spare = new.standby.spare }
    pub more_standby : old.standby.spare ≤ new.standby.spare
    pub fence : new.fence ≡ record old.fence { room = new.fence.room }
    pub more_fence : old.fence.room ≤ new.fence.room
    pub primary_start : new.primary_start ≡ old.primary_start
    pub standby_start : new.standby_start ≡ old.standby_start
    pub missing : new.missing ≡ old.missing
