-- A fence: the greatest number that was shown, and those with which something was written.
use Rattle.std.specs.Prelude.{◌≡◌, ℕ, ◌+◌, ◌-◌, max, List, [], ◌∷◌, ◌++◌, length}
use Rattle.bbs_board.specs.View.{View}

-- the least number that is taken, the greatest that was shown, those that were noted, in order, and for how many more
-- there is memory
pub record FenceView : Type 0 where
  pub floor : ℕ
  pub greatest : ℕ
  pub numbers : List ℕ
  pub room : ℕ

-- nothing was shown yet
pub record IsNewFence (floor : ℕ) (fence : FenceView) : Type 0 where
  pub floor_is : fence.floor ≡ floor
  pub greatest : fence.greatest ≡ floor
  pub numbers : fence.numbers ≡ []

-- this number was shown: the greatest one is kept
abbrev pub after_showing : ℕ → FenceView → FenceView
after_showing number fence = record fence { greatest = max fence.greatest number }

-- the greatest number was noted, which takes the room of one
abbrev pub after_noting : FenceView → FenceView
after_noting fence = record fence { numbers = fence.numbers ++ fence.greatest ∷ []; room = fence.room - 1 }

-- a board, the length of its log when it came behind the fence, and the fence
pub record FencedView (D : Type 0) : Type 0 where
  pub board : View D
  pub start : ℕ
  pub fence : FenceView

-- one number was noted for each item that the log gained
abbrev pub NumbersEach : {D : Type 0} → View D → ℕ → FenceView → Type 0
NumbersEach board start fence = length board.log ≡ start + length fence.numbers

-- it stands behind the same fence, of the same floor, since the same place of its log
pub record StaysBehind {D : Type 0} (old new : FencedView D) : Type 0 where
  pub start : new.start ≡ old.start
  pub floor : new.fence.floor ≡ old.fence.floor
