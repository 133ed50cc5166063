-- How a pair begins, and what is left of it.
use Rattle.std.specs.Prelude.{◌≡◌, ℕ, length, None}
use Rattle.bbs_board.specs.View.{View, rows_of}
use Rattle.fenced_board.specs.Fences.{FencedView, IsNewFence}
use Rattle.standby_board.specs.Pairs.{PairView}
use Rattle.standby_board.specs.declared.answers.StartRefusal.{StartRefusal}
use Rattle.standby_board.specs.declared.answers.StartRefusal.TheVariants as refusal

-- a refusal says that the rows of these boards differ, with the number of transitions in the life of each; want of
-- memory says nothing of them
abbrev pub TellsApart : {D E : Type 0} → View D → View E → StartRefusal → Type 0
TellsApart primary standby (refusal.Unequal next next') =
    (rows_of primary ≡ rows_of standby → ⊥) × (next ≡ (rows_of primary).next) × (next' ≡ (rows_of standby).next)
TellsApart primary standby refusal.OutOfMemory = Unit {0}

module _ {D E : Type 0} where
  -- the pair was started with these boards, whose rows are equal: it has done nothing, and nothing is missing
  pub record IsStarted (primary : View D) (standby : View E) (floor : ℕ) (v : PairView D E) : Type 0 where
    pub equal : rows_of primary ≡ rows_of standby
    pub primary_is : v.primary ≡ primary
    pub standby_is : v.standby ≡ standby
    pub primary_start : v.primary_start ≡ primary
    pub standby_start : v.standby_start ≡ standby
    pub fence : IsNewFence floor v.fence
    pub missing : v.missing ≡ None

  -- the standby took over behind this number: it is the standby as it stood, behind a fence with that floor
  pub record IsTaken (number : ℕ) (v : PairView D E) (board : FencedView E) : Type 0 where
    pub board_is : board.board ≡ v.standby
    pub start : board.start ≡ length v.standby.log
    pub fence : IsNewFence number board.fence
