-- What callers did to a board between two moments.
use Rattle.std.specs.Prelude.{ℕ, Option}
use Rattle.disk_trait.specs.Past.{Past}
use Rattle.bbs_board.specs.View.{View}
use Rattle.board_port.specs.Went.{Went}
pub use Rattle.board_port.specs.Going.{BoardGoesOn}

-- one caller alone called the board
pub record IsCalledByOne {D : Type 0} (told : D → Option Past) (by : ℕ) (v w : View D) : Type 0 where
  pub name : ℕ
  pub name' : ℕ
  pub went : Went told by by name name' v w
