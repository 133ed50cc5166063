-- What a stop leaves while a command is stored, and after it.
use Rattle.std.specs.Prelude.{◌≡◌, ◌⊎◌, Bool, true}
use Rattle.disk_trait.specs.Past.{Past, Image, Images, ImagesSince}
use Rattle.disk_trait.specs.Runs.{Extends}
use Rattle.bbs_model.specs.Step.{rows_after}
use Rattle.bbs_model.specs.declared.command.Command.{Command}
use Rattle.bbs_model.specs.declared.rows.Rows.{Rows}
use Rattle.bbs_board.specs.Written.{Reading, ReadsAs, OpensTo, LeadsTo, with_room, stored_behind}

-- the image is opened as what is read, and that leads to these rows
pub record OpensWith (rows : Rows) (r : Reading) (image : Image) : Type 0 where
  pub opens : OpensTo r image
  pub leads : LeadsTo r rows

-- the image is opened as what was read before a command, with room made for it or not, or with it stored
abbrev pub IsOnTheWay : Rows → Command → Reading → Image → Type 0
IsOnTheWay rows command r image =
    OpensTo r image
    ⊎ (OpensWith rows (with_room rows r) image ⊎ OpensWith (rows_after rows command) (stored_behind rows command r) image)

-- a command was stored at these rows, or storing it failed: what the disk read before is the history that leads to
-- the rows; all the while a stop leaves that, or what is read when there is room for one more, or that with the
-- command; and once it is stored only the last
pub record Stores (stored : Bool) (rows : Rows) (command : Command) (p q : Past) : Type 0 where
  pub extends : Extends p q
  pub before : Reading
  pub reads : ReadsAs before p
  pub leads : LeadsTo before rows
  pub each : (image : Image) → ImagesSince q p.clock image → IsOnTheWay rows command before image
  pub done : stored ≡ true → (image : Image) → Images q image
      → OpensWith (rows_after rows command) (stored_behind rows command before) image
