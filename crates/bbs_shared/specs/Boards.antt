-- What a desk takes for a board's history and for its origin, and what a job does there that only reads.
use Rattle.std.specs.Prelude.{◌≡◌, ◌<◌, ◌^◌, List, length, Option, Some, None}
use Rattle.disk_trait.specs.Past.{Past}
use Rattle.bbs_board.specs.View.{View}
use Rattle.bbs_model.specs.Tables.{no_rows}
use Rattle.bbs_model.specs.declared.item.Item.{Item}
use Rattle.bbs_model.specs.declared.rows.Rows.{Rows}
use Rattle.board_port.specs.Going.{BoardGoesOn}
use Rattle.bbs_shared.specs.declared.origin.Origin.{Origin}

-- a board that is shared, and how it was when it was first shared
pub record BoardStanding (D : Type 0) : Type 0 where
  pub board : View D
  pub start : View D

-- the board went on from its start, by some items
pub record HasGone {D : Type 0} (told : D → Option Past) (v w : View D) : Type 0 where
  pub fresh : List Item
  pub goes : BoardGoesOn told fresh v w

-- the rows that the board of an origin was loaded with
abbrev pub base_of : {S : Type 0} → Option (Origin S) → Rows
base_of (Some o) = o.base
base_of None = no_rows

module _ {D : Type 0} where
  -- the log of the board is the history
  abbrev pub log_of : BoardStanding D → List Item
  log_of at = at.board.log

  -- no call changes these
  abbrev pub origin_of : BoardStanding D → Origin (View D)
  origin_of at = record { base = at.board.base; since = at.board.since; faults = at.board.faults; start = at.start }

  -- the board was read and is as it was
  pub record IsRead (before after : BoardStanding D) : Type 0 where
    pub same : after ≡ before
    pub few : length before.board.log < 2 ^ 64
