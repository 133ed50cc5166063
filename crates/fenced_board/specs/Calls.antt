-- What a call of a fenced board answers and does.
use Rattle.std.specs.Prelude.{◌≡◌, ◌⊎◌, ◌↔◌, ℕ, ◌+◌, ◌<◌, ◌≤◌, max, false, Option, ◌++◌, length, map, Result, Ok, Err}
use Rattle.std.specs.Option.{ForSome}
use Rattle.disk_trait.specs.Past.{Past}
use Rattle.disk_trait.specs.Steps.{Goes}
use Rattle.bbs_model.specs.Calls.{Ends, added, is_done, is_disk_fault, is_starved}
use Rattle.bbs_model.specs.Step.{verdict_of}
use Rattle.bbs_model.specs.declared.command.Command.{Command}
use Rattle.bbs_model.specs.declared.reply.CallFault.{CallFault}
use Rattle.bbs_model.specs.declared.reply.CallFault.TheVariants as fault
use Rattle.bbs_model.specs.declared.reply.Reply.{Reply}
use Rattle.bbs_board.specs.Calls.{Grows, Passes, UsesDisk}
use Rattle.bbs_board.specs.KeptIn.{StaysShort, most_after}
use Rattle.bbs_board.specs.View.{View, rows_of}
use Rattle.fenced_board.specs.Fences.{FencedView}
use Rattle.fenced_board.specs.declared.reply.FencedReply.{FencedReply}
use Rattle.fenced_board.specs.declared.reply.FencedReply.TheVariants as fenced

-- a number was shown where this one was the greatest: the greater of both is kept, whatever the call came to; and the
-- answer is that it is stale exactly where it is the smaller one
pub record ShowsNumber (number : ℕ) (end : Result FencedReply CallFault) (before after : ℕ) : Type 0 where
  pub greatest : after ≡ max before number
  pub stale : (end ≡ Ok (fenced.StaleFence before)) ↔ (number < before)

-- what a call of a board promises
pub record IsBoardCall {D : Type 0} (told : D → Option Past) (moment fault_count : D → ℕ) (by : ℕ) (command : Command)
    (old new : View D) (end : Result Reply CallFault) : Type 0 where
  pub ends : Ends (verdict_of (rows_of old) command) (length old.log) (rows_of old).next end
  pub grows : Grows (is_done end) (added end by command) (moment new.disk) old new
  pub fed : 0 < old.spare → is_starved end ≡ false
  pub does : Goes (told old.disk) (told new.disk)
      (Passes old.waits (verdict_of (rows_of old) command) (is_done end) (rows_of old) command)
  pub few : ForSome (told new.disk) (StaysShort (most_after (is_done end) old.frames) new.frames)
  pub uses : UsesDisk moment fault_count (is_done end) (is_disk_fault end) old new

-- the board was called, and this number was noted for the item of the call, if it has one
pub record IsCalledBehind {D : Type 0} (told : D → Option Past) (moment fault_count : D → ℕ) (number by : ℕ)
    (command : Command) (old new : FencedView D) (end : Result Reply CallFault) : Type 0 where
  pub called : IsBoardCall told moment fault_count by command old.board new.board end
  pub numbers : new.fence.numbers ≡ old.fence.numbers ++ map (λ item. number) (added end by command)
  pub room : old.fence.room ≤ new.fence.room + length (added end by command)

-- the answer of a board, as the fence hands it on
abbrev pub handed_on : Result Reply CallFault → Result FencedReply CallFault
handed_on (Ok reply) = Ok (fenced.Reply reply)
handed_on (Err why) = Err why

-- the board was called with this number, and its answer was handed on
pub record HandsOn {D : Type 0} (told : D → Option Past) (moment fault_count : D → ℕ) (number by : ℕ) (command : Command)
    (old new : FencedView D) (result : Result FencedReply CallFault) : Type 0 where
  pub end : Result Reply CallFault
  pub answer : result ≡ handed_on end
  pub behind : IsCalledBehind told moment fault_count number by command old new end

-- there was no room for a number and no memory for it, and the board wasn't called
pub record WantsRoom {D : Type 0} (old new : FencedView D) (result : Result FencedReply CallFault) : Type 0 where
  pub answer : result ≡ Err fault.OutOfMemory
  pub none : old.fence.room ≡ 0
  pub board : new.board ≡ old.board
  pub numbers : new.fence.numbers ≡ old.fence.numbers

-- what a call does with a number that isn't stale
abbrev pub TakesNumber : {D : Type 0} → (D → Option Past) → (D → ℕ) → (D → ℕ) → ℕ → ℕ → Command → FencedView D → FencedView D
    → Result FencedReply CallFault → Type 0
TakesNumber told moment fault_count number by command old new result =
    HandsOn told moment fault_count number by command old new result ⊎ WantsRoom old new result
