-- What callers did to a board between two moments.
use Rattle.std.specs.Prelude.{◌≡◌, ℕ, false, List, ◌++◌, length, Option}
use Rattle.disk_trait.specs.Past.{Past, Image, Images}
use Rattle.disk_trait.specs.Runs.{Extends}
use Rattle.disk_trait.specs.Steps.{Goes}
use Rattle.bbs_board.specs.Doubts.{doubts_in}
use Rattle.bbs_board.specs.Kept.{RiseBetween}
use Rattle.bbs_board.specs.Opening.{IsBoard}
use Rattle.bbs_board.specs.View.{View, rows_of}
use Rattle.bbs_board.specs.Written.{WritesOn}
use Rattle.bbs_model.specs.declared.item.Item.{Item}
use Rattle.bbs_model.specs.declared.rows.Rows.{Rows}

-- whatever a stop now may leave is a board with these rows
abbrev pub LeavesBoard : Rows → Past → Type 0
LeavesBoard rows p = (image : Image) → Images p image → IsBoard rows image

-- each item that came has a mark behind those that were there; these marks never fall, none is before the disk's clock
-- then, and none behind its clock now
pub record GainsMarks {D : Type 0} (told : D → Option Past) (fresh : List Item) (v w : View D) : Type 0 where
  pub gained : List ℕ
  pub grows : w.marks ≡ v.marks ++ gained
  pub count : length gained ≡ length fresh
  pub rising : Goes (told v.disk) (told w.disk) (λ p q. RiseBetween p.clock gained q.clock)

-- it was loaded in the same way, and these items came behind its log, each with a mark; the disk has gone on; and where
-- nothing waited and nothing is in doubt it reads as it did, with each of these items stored behind it at the rows that
-- it came to; and if a stop could leave a board with the rows then alone, it can leave one with the rows now alone
pub record BoardGoesOn {D : Type 0} (told : D → Option Past) (fresh : List Item) (v w : View D) : Type 0 where
  pub base : w.base ≡ v.base
  pub since : w.since ≡ v.since
  pub faults : w.faults ≡ v.faults
  pub grows : w.log ≡ v.log ++ fresh
  pub marks : GainsMarks told fresh v w
  pub disk : Goes (told v.disk) (told w.disk) Extends
  pub writes : v.waits ≡ false → doubts_in fresh ≡ 0
      → (w.waits ≡ false) × Goes (told v.disk) (told w.disk) (WritesOn (rows_of v) fresh)
  pub leaves : v.waits ≡ false → doubts_in fresh ≡ 0
      → Goes (told v.disk) (told w.disk) (λ p q. LeavesBoard (rows_of v) p → LeavesBoard (rows_of w) q)
