-- What a call answers, what it adds to the log, and whose an item is.
use Rattle.std.specs.Prelude.{◌≡◌, ◌⊎◌, ◌==◌, ℕ, Bool, true, false, List, [], ◌∷◌, filter, Result, Ok, Err}
use Rattle.bbs_model.specs.declared.command.Command.{Command}
use Rattle.bbs_model.specs.declared.item.Item.{Item}
use Rattle.bbs_model.specs.declared.item.Item.TheVariants.{Done, Doubt}
use Rattle.bbs_model.specs.declared.reply.CallFault.{CallFault}
use Rattle.bbs_model.specs.declared.reply.CallFault.TheVariants as fault
use Rattle.bbs_model.specs.declared.reply.Reply.{Reply}
use Rattle.bbs_model.specs.declared.reply.Reply.TheVariants as reply
use Rattle.bbs_model.specs.declared.verdict.Verdict.{Verdict}
use Rattle.bbs_model.specs.declared.verdict.Verdict.TheVariants as verdict

-- how a call may end whose step comes to this verdict, at this place of the log and at a board with so
-- many transitions
abbrev pub Ends : Verdict → ℕ → ℕ → Result Reply CallFault → Type 0
Ends verdict.Ok place stamp end = (end ≡ Ok (reply.Ok place stamp)) ⊎ ((end ≡ Err (fault.Disk place)) ⊎ (end ≡ Err fault.OutOfMemory))
Ends verdict.Same place stamp end = end ≡ Ok (reply.Same place)
Ends (verdict.Refused why) place stamp end = end ≡ Ok (reply.Refused why place)

-- the items that a call adds to the log, by its end
abbrev pub added : Result Reply CallFault → ℕ → Command → List Item
added (Ok (reply.Ok place stamp)) by command = Done by command ∷ []
added (Ok (reply.Same place)) by command = []
added (Ok (reply.Refused why place)) by command = []
added (Err (fault.Disk place)) by command = Doubt by command ∷ []
added (Err fault.OutOfMemory) by command = []

-- the transition is acknowledged
abbrev pub is_done : Result Reply CallFault → Bool
is_done (Ok (reply.Ok place stamp)) = true
is_done (Ok (reply.Same place)) = false
is_done (Ok (reply.Refused why place)) = false
is_done (Err why) = false

-- the disk failed in the call
abbrev pub is_disk_fault : Result Reply CallFault → Bool
is_disk_fault (Ok reply) = false
is_disk_fault (Err (fault.Disk place)) = true
is_disk_fault (Err fault.OutOfMemory) = false

-- the call wanted memory
abbrev pub is_starved : Result Reply CallFault → Bool
is_starved (Ok reply) = false
is_starved (Err (fault.Disk place)) = false
is_starved (Err fault.OutOfMemory) = true

-- the number of the caller of an item
abbrev pub by_of : Item → ℕ
by_of (Done by c) = by
by_of (Doubt by c) = by

-- the items of a caller in a log
abbrev pub by_number : ℕ → List Item → List Item
by_number n log = filter (λ (i : Item). by_of i == n) log
