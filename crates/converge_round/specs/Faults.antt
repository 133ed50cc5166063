-- Why a round ended with a fault.
use Rattle.std.specs.Prelude.{◌≡◌, ◌≤◌, ◌⊎◌, ℕ, Bool, true, false, List, ◌++◌, length, slice_get, Some, Result, Ok, Err}
use Rattle.std.specs.List.{Contains, list_all}
use Rattle.bbs_model.specs.PortView.{PortView, IsLater}
use Rattle.bbs_model.specs.declared.command.Command.{Command}
use Rattle.bbs_model.specs.declared.item.Item.{Item}
use Rattle.bbs_model.specs.declared.item.Item.TheVariants.{Done, Doubt}
use Rattle.bbs_model.specs.declared.reply.CallFault.{CallFault}
use Rattle.bbs_model.specs.declared.reply.CallFault.TheVariants as fault
use Rattle.converge_round.specs.Starts.{fault_in}
use Rattle.converge_round.specs.declared.claims.StartEnd.{StartEnd}

-- a caller's doubt of a command stands at that place of what it sees now, behind what it had seen, and is its own item
pub record IsDoubtedAt (by place : ℕ) (v w : PortView) : Type 0 where
  pub command : Command
  pub later : IsLater v w
  pub behind : length v.seen ≤ place
  pub stands : slice_get w.seen place ≡ Some (Doubt by command)
  pub own : Contains later.mine.0 (Doubt by command)

-- a fault of the disk at a place has its doubt there; want of memory needs no cause
pub record IsCausedBy (by : ℕ) (v w : PortView) (why : CallFault) : Type 0 where
  pub disk : (place : ℕ) → why ≡ fault.Disk place → IsDoubtedAt by place v w

-- what came of a start is that fault, or memory ran out
abbrev pub IsFaultOf : StartEnd → CallFault → Type 0
IsFaultOf end why = (fault_in end ≡ Some why) ⊎ (why ≡ fault.OutOfMemory)

-- if what came of a start is a fault, it is the one told
abbrev pub IsTold : StartEnd → Result (Unit {0}) CallFault → Type 0
IsTold end told = (why : CallFault) → fault_in end ≡ Some why → told ≡ Err why

-- the item was acknowledged
abbrev pub is_sure : Item → Bool
is_sure (Done by c) = true
is_sure (Doubt by c) = false

-- nothing that a caller did in between is in doubt
pub record HasNoDoubt (v w : PortView) : Type 0 where
  pub items : List Item
  pub mine_is : w.mine ≡ v.mine ++ items
  pub all_sure : list_all is_sure items ≡ true

-- and so it is behind a fault, unless the disk failed
abbrev pub IsSureFault : CallFault → PortView → PortView → Type 0
IsSureFault (fault.Disk place) v w = Unit {0}
IsSureFault fault.OutOfMemory v w = HasNoDoubt v w

-- so it is behind what came to this end: want of memory hides no doubt
abbrev pub IsSure : {X : Type 0} → Result X CallFault → PortView → PortView → Type 0
IsSure (Ok x) v w = HasNoDoubt v w
IsSure (Err why) v w = IsSureFault why v w
