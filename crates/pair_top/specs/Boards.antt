-- What is left of the two boards of a pair behind a script.
use Rattle.std.specs.Prelude.{◌≡◌, ℕ, List, [], length, Option, Some, None}
use Rattle.std.specs.Option.{ForSome}
use Rattle.bbs_board.specs.Doubts.{doubts_in}
use Rattle.bbs_board.specs.View.{View}
use Rattle.bbs_model.specs.declared.item.Item.{Item}
use Rattle.disk_trait.specs.Past.{Past}
use Rattle.disk_trait.specs.Runs.{Extends}
use Rattle.disk_trait.specs.Steps.{Goes}
use Rattle.pair_lines.specs.declared.answered.PairAnswered.{PairAnswered}
use Rattle.pair_runs.specs.Accounts.{Covers, items_in}
use Rattle.standby_board.specs.Calls.{IsSamePair}
use Rattle.standby_board.specs.Images.{StandbyShows}
use Rattle.standby_board.specs.Pairs.{IsKeptBoard, PairView, StandsPaired, done_on_standby}

module _ {D E : Type 0} (told : D → Option Past) (faults : D → ℕ) (told' : E → Option Past) (faults' moment' : E → ℕ) where
  -- a pair that was never given up was closed at the end, with these disks; its primary's log has the items of these
  -- answers, and the standby has stored what was acknowledged
  pub record LeavesPair (pair : PairView D E) (answers : List PairAnswered) (primary : D) (standby : E) : Type 0 where
    pub last : PairView D E
    pub same : IsSamePair pair last
    pub log : last.primary.log ≡ items_in answers
    pub covers : Covers [] (length (done_on_standby last)) answers
    pub stands : StandsPaired told told' last
    pub shows : ForSome (told' last.standby.disk) (StandbyShows (moment' last.standby_start.disk) last)
    pub kept : IsKeptBoard told faults last.primary × IsKeptBoard told' faults' last.standby
    pub primary_is : primary ≡ last.primary.disk
    pub standby_is : standby ≡ last.standby.disk

  -- the standby took over behind these items, all done and on both boards, and was closed at the end with all of these
  pub record LeavesAlone (pair : PairView D E) (before items : List Item) (primary : D) (standby : E) : Type 0 where
    pub last : PairView D E
    pub same : IsSamePair pair last
    pub log : last.primary.log ≡ before
    pub level : (last.missing ≡ None) × (last.standby.log ≡ before)
    pub calm : doubts_in before ≡ 0
    pub stands : StandsPaired told told' last
    pub primary_kept : IsKeptBoard told faults last.primary
    pub primary_is : primary ≡ last.primary.disk
    pub board : View E
    pub base : board.base ≡ last.standby.base
    pub since : board.since ≡ last.standby.since
    pub goes : Goes (told' last.standby.disk) (told' board.disk) Extends
    pub board_log : board.log ≡ items
    pub board_kept : IsKeptBoard told' faults' board
    pub standby_is : standby ≡ board.disk

  -- the one or the other, by the answers before a take-over, if there was one
  abbrev pub LeavesBoards : Option (List PairAnswered) → PairView D E → List PairAnswered → D → E → Type 0
  LeavesBoards None pair answers primary standby = LeavesPair pair answers primary standby
  LeavesBoards (Some first) pair answers primary standby =
      LeavesAlone pair (items_in first) (items_in answers) primary standby
