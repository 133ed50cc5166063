-- Two boards behind one fence: what is done on the primary is done on the standby next.
use Rattle.std.specs.Prelude.{◌≡◌, ◌⊎◌, ℕ, List, [], ◌∷◌, ◌++◌, drop, length, Option, Some, None}
use Rattle.std.specs.List.{slice_get}
use Rattle.std.specs.Option.{ForSome}
use Rattle.disk_trait.specs.Past.{Past}
use Rattle.bbs_board.specs.Doubts.{doubts_in, RoseForEach}
use Rattle.bbs_board.specs.Kept.{Kept}
use Rattle.bbs_board.specs.View.{View, rows_of}
use Rattle.bbs_model.specs.Replay.{replay_log, IsLawful}
use Rattle.bbs_model.specs.Valid.{IsValid}
use Rattle.bbs_model.specs.declared.command.Command.{Command}
use Rattle.bbs_model.specs.declared.item.Item.{Item}
use Rattle.bbs_model.specs.declared.item.Item.TheVariants.{Done, Doubt}
use Rattle.board_port.specs.Going.{BoardGoesOn}
use Rattle.fenced_board.specs.Fences.{FenceView, NumbersEach}

-- both boards as they are and as they were when the pair was started, the fence, and the command that the standby has
-- still to store, with the number of its caller
pub record PairView (D E : Type 0) : Type 0 where
  pub primary : View D
  pub standby : View E
  pub primary_start : View D
  pub standby_start : View E
  pub fence : FenceView
  pub missing : Option (ℕ × Command)

-- the item that the standby lacks, if there is one
abbrev pub owed : Option (ℕ × Command) → List Item
owed None = []
owed (Some m) = Done m.0 m.1 ∷ []

-- those of the items that were done, in order
abbrev pub dones : List Item → List Item
dones [] = []
dones (Done by c ∷ is) = Done by c ∷ dones is
dones (Doubt by c ∷ is) = dones is

-- what the log of a board gained since it was this one
abbrev pub gained_since : {D : Type 0} → View D → View D → List Item
gained_since start board = drop (length start.log) board.log

-- each doubt is of the item that was done next, be it among these or the first of those that come behind them
abbrev pub TriesNext : List Item → List Item → Type 0
TriesNext [] behind = Unit {0}
TriesNext (Done by c ∷ is) behind = TriesNext is behind
TriesNext (Doubt by c ∷ is) behind = (slice_get (dones is ++ behind) 0 ≡ Some (Done by c)) × TriesNext is behind

-- the log ends with an item that was done
pub record EndsDone (log : List Item) : Type 0 where
  pub earlier : List Item
  pub by : ℕ
  pub command : Command
  pub is : log ≡ earlier ++ Done by command ∷ []

-- the log is empty or ends with an item that was done, so that no doubt of it shows any more
abbrev pub IsCalm : List Item → Type 0
IsCalm log = (log ≡ []) ⊎ EndsDone log

-- what holds of each board
pub record IsKeptBoard {D : Type 0} (told : D → Option Past) (fault_count : D → ℕ) (board : View D) : Type 0 where
  pub valid : IsValid board.base
  pub lawful : IsLawful board.base board.log
  pub kept : ForSome (told board.disk) (Kept board.base board.log board.marks board.since)
  pub doubts : RoseForEach (doubts_in board.log) board.faults (fault_count board.disk)

-- a command without the number of its caller
abbrev pub command_of : Option (ℕ × Command) → Option Command
command_of None = None
command_of (Some m) = Some m.1

-- a board went on from this one, by some items
pub record WentOn {D : Type 0} (told : D → Option Past) (start board : View D) : Type 0 where
  pub fresh : List Item
  pub goes : BoardGoesOn told fresh start board

module _ {D E : Type 0} where
  -- what the primary has done since the start, in order
  abbrev pub done_on_primary : PairView D E → List Item
  done_on_primary v = dones (gained_since v.primary_start v.primary)

  -- what the standby has done since the start, in order
  abbrev pub done_on_standby : PairView D E → List Item
  done_on_standby v = dones (gained_since v.standby_start v.standby)

  -- both boards began with the same rows, and the standby has done what the primary did, but for what is missing;
  -- what it has in doubt it did next, or it is missing; and there is a number for each item of the primary
  pub record IsPaired (v : PairView D E) : Type 0 where
    pub equal : rows_of v.primary_start ≡ rows_of v.standby_start
    pub calm : IsCalm v.standby_start.log
    pub mirrors : done_on_primary v ≡ done_on_standby v ++ owed v.missing
    pub tries : TriesNext (gained_since v.standby_start v.standby) (owed v.missing)
    pub level : rows_of v.primary ≡ replay_log (rows_of v.standby) (owed v.missing)
    pub ready : IsLawful (rows_of v.standby) (owed v.missing)
    pub counted : NumbersEach v.primary (length v.primary_start.log) v.fence

  -- the rows of both boards are those at the start and then what was done: on the standby all that the primary did,
  -- but for what is missing
  pub record FollowsRows (v : PairView D E) : Type 0 where
    pub primary : rows_of v.primary ≡ replay_log (rows_of v.primary_start) (done_on_primary v)
    pub standby : rows_of v.standby ≡ replay_log (rows_of v.primary_start) (done_on_standby v)
    pub lacks : done_on_primary v ≡ done_on_standby v ++ owed v.missing

  -- so stands each pair: both boards went on from the start, and the standby follows the primary
  pub record StandsPaired (told : D → Option Past) (told' : E → Option Past) (v : PairView D E) : Type 0 where
    pub primary : WentOn told v.primary_start v.primary
    pub standby : WentOn told' v.standby_start v.standby
    pub begun : ForSome (told' v.standby_start.disk)
        (Kept v.standby_start.base v.standby_start.log v.standby_start.marks v.standby_start.since)
    pub paired : IsPaired v
