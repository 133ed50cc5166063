-- What follows from what a pair promises.
use Rattle.std.specs.Prelude.{ℕ, ◌≤◌, List, ◌++◌, length, take}
use Rattle.bbs_board.specs.Kept.{RiseBetween}
use Rattle.bbs_model.specs.Replay.{replay_log, IsReached}
use Rattle.bbs_model.specs.declared.item.Item.{Item}
use Rattle.bbs_model.specs.declared.rows.Rows.{Rows}
use Rattle.standby_board.specs.Pairs.{dones}

-- the numbers of a pair and then those of the board that took over never fall, all together
abbrev pub NumbersRiseOverTakeOvers : Type 0
NumbersRiseOverTakeOvers =
    (floor next greatest : ℕ) (numbers later : List ℕ) → RiseBetween floor numbers next
    → RiseBetween next later greatest
    → RiseBetween floor (numbers ++ later) greatest

-- a beginning of what was done is what a log reaches: from this place on, where it has all that was done before it
abbrev pub BeginningsAreReached : Type 0
BeginningsAreReached =
    (base : Rows) (log : List Item) (from count : ℕ) → from ≤ length log → length (dones (take from log)) ≤ count
    → count ≤ length (dones log) → IsReached base log from (replay_log base (take count (dones log)))
