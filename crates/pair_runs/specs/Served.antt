-- What answers a pair's clients, and what a call does to it.
use Rattle.std.specs.Prelude.{◌≡◌, ◌⊎◌, ℕ, ◌≤◌, Bool, true, false, ◌||◌, List, ◌++◌, length, Option, Some, Ok, Err}
use Rattle.byte_ports.specs.Cause.{Rose}
use Rattle.bbs_model.specs.Replay.{replay_log}
use Rattle.bbs_model.specs.Step.{verdict_of}
use Rattle.bbs_model.specs.declared.command.Command.{Command}
use Rattle.bbs_model.specs.declared.item.Item.{Item}
use Rattle.bbs_model.specs.declared.rows.Rows.{Rows}
use Rattle.standby_board.specs.Calls.{Answers, End, gained, is_acknowledged, is_primary_fault, is_standby_fault}
use Rattle.standby_board.specs.Pairs.{dones}
use Rattle.standby_board.specs.declared.answers.PairFault.TheVariants as fault

-- the rows that it began with, and the items since then; the log of the standby, where that lacks nothing, and how many
-- transitions it has stored since then; and how many faults the two disks have had
pub record ServerView : Type 0 where
  pub base : Rows
  pub log : List Item
  pub copy : Option (List Item)
  pub stored : ℕ
  pub primary_faults : ℕ
  pub standby_faults : ℕ

-- the rows that its log leaves
abbrev pub rows_in : ServerView → Rows
rows_in v = replay_log v.base v.log

-- a disk failed in the call
abbrev pub is_disk_end : End → Bool
is_disk_end end = is_primary_fault end || is_standby_fault end

-- the call wanted memory
abbrev pub is_starved : End → Bool
is_starved (Ok reply) = false
is_starved (Err (fault.Disk place)) = false
is_starved (Err (fault.StandbyDisk place)) = false
is_starved (Err (fault.Behind place)) = false
is_starved (Err fault.OutOfMemory) = true

-- the standby's log is the same
abbrev pub IsLevel : ServerView → Type 0
IsLevel v = v.copy ≡ Some v.log

-- no count of faults falls, and where a disk failed one has risen
pub record Blames (failed : Bool) (v w : ServerView) : Type 0 where
  pub primary : v.primary_faults ≤ w.primary_faults
  pub standby : v.standby_faults ≤ w.standby_faults
  pub rose : failed ≡ true → Rose v.primary_faults w.primary_faults ⊎ Rose v.standby_faults w.standby_faults

-- the standby follows a call: where no disk failed it stays level, and where the call was acknowledged it has stored all
-- that was done
pub record IsFollowed (end : End) (v w : ServerView) : Type 0 where
  pub level : is_disk_end end ≡ false → IsLevel v → IsLevel w
  pub grows : v.stored ≤ w.stored
  pub covers : is_acknowledged end ≡ true → length (dones w.log) ≤ w.stored

-- a call was answered by the step at the rows that the log left, and its items came behind the log
pub record IsServed (by : ℕ) (command : Command) (v : ServerView) (end : End) (w : ServerView) : Type 0 where
  pub base : w.base ≡ v.base
  pub answers : Answers (verdict_of (rows_in v) command) (length v.log) (rows_in v).next end
  pub log : w.log ≡ v.log ++ gained end by command
  pub blames : Blames (is_disk_end end) v w
  pub followed : IsFollowed end v w
