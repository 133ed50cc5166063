-- What a board keeps, whatever stops come: a stop leaves a board at a prefix of the log that has each item
-- that was acknowledged by then, and at most one doubt behind it.
use Rattle.std.specs.Prelude.{◌≡◌, ℕ, ◌+◌, ◌≤◌, Some, List, [], ◌∷◌, length}
use Rattle.std.specs.List.{slice_get}
use Rattle.disk_trait.specs.Past.{Past, Image, ImagesSince}
use Rattle.bbs_model.specs.Replay.{IsReached}
use Rattle.bbs_model.specs.declared.command.Command.{Command}
use Rattle.bbs_model.specs.declared.item.Item.{Item}
use Rattle.bbs_model.specs.declared.item.Item.TheVariants.{Done}
use Rattle.bbs_model.specs.declared.rows.Rows.{Rows}
use Rattle.bbs_board.specs.Opening.{IsBoard}

-- the image is a board, at rows that the log reaches at some place from this one on
pub record IsFound (base : Rows) (log : List Item) (from : ℕ) (image : Image) : Type 0 where
  pub rows : Rows
  pub board : IsBoard rows image
  pub reached : IsReached base log from rows

-- the numbers never fall, and lie between these two
abbrev pub RiseBetween : ℕ → List ℕ → ℕ → Type 0
RiseBetween low [] high = low ≤ high
RiseBetween low (mark ∷ marks) high = (low ≤ mark) × RiseBetween mark marks high

-- each item has a mark, and whatever a stop since that moment left is a board that the log reaches,
-- with each item that was done when its mark was reached
pub record Kept (base : Rows) (log : List Item) (marks : List ℕ) (since : ℕ) (p : Past) : Type 0 where
  pub count : length marks ≡ length log
  pub rising : RiseBetween since marks p.clock
  pub found : (image : Image) → ImagesSince p since image → IsFound base log 0 image
  pub acknowledged : (place mark by : ℕ) (command : Command) → slice_get log place ≡ Some (Done by command)
      → slice_get marks place ≡ Some mark
      → (image : Image) → ImagesSince p mark image → IsFound base log (place + 1) image
