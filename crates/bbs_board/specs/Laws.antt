-- What holds of every image.
use Rattle.std.specs.Prelude.{◌≡◌, ◌⊎◌, ℕ, ◌+◌, ◌≤◌, Bool, true, Some, List, take}
use Rattle.std.specs.List.{slice_get}
use Rattle.disk_trait.specs.Past.{Past, Image, Images, ImagesSince}
use Rattle.bbs_journal.specs.declared.load_fault.LoadFault.{LoadFault}
use Rattle.bbs_laws.specs.Births.{completions}
use Rattle.bbs_model.specs.Replay.{IsLawful}
use Rattle.bbs_model.specs.Step.{rows_after}
use Rattle.bbs_model.specs.Valid.{IsValid}
use Rattle.bbs_model.specs.declared.command.Command.{Command}
use Rattle.bbs_model.specs.declared.item.Item.{Item}
use Rattle.bbs_model.specs.declared.item.Item.TheVariants.{Done}
use Rattle.bbs_model.specs.declared.rows.Rows.{Rows}
use Rattle.bbs_board.specs.Kept.{Kept}
use Rattle.bbs_board.specs.Opening.{IsBoard, IsRefused}

-- an image is a board with one set of rows only
abbrev pub OpensInOneWay : Type 0
OpensInOneWay = (a b : Rows) (c : Image) → IsBoard a c → IsBoard b c → a ≡ b

-- what is a board is refused for no defect
abbrev pub RecoversOrRefuses : Type 0
RecoversOrRefuses = (rows : Rows) (fault : LoadFault) (c : Image) → IsBoard rows c → IsRefused fault c → ⊥

-- what is refused is refused for one defect only
abbrev pub RefusesOnce : Type 0
RefusesOnce = (a b : LoadFault) (c : Image) → IsRefused a c → IsRefused b c → a ≡ b

-- the image is a board
pub record IsSomeBoard (c : Image) : Type 0 where
  pub rows : Rows
  pub board : IsBoard rows c

-- the image is none
pub record IsNoBoard (c : Image) : Type 0 where
  pub fault : LoadFault
  pub refused : IsRefused fault c

-- each image is a board, or is refused, whatever stands in it
abbrev pub OpensOrIsRefused : Type 0
OpensOrIsRefused = (c : Image) → IsSomeBoard c ⊎ IsNoBoard c

-- what a stop leaves while a command is stored is a board with the rows before it or with those after it,
-- and once it is acknowledged with those after it
pub record StopsLeaveBoards (stored : Bool) (rows : Rows) (command : Command) (p q : Past) : Type 0 where
  pub each : (image : Image) → ImagesSince q p.clock image → IsBoard rows image ⊎ IsBoard (rows_after rows command) image
  pub acknowledged : stored ≡ true → (image : Image) → Images q image → IsBoard (rows_after rows command) image

-- a board that was opened after a stop, at whatever moment since an item was acknowledged: no task gets its
-- outcome up to that item, and again behind the stop
abbrev pub CompletesOnceOverStops : Type 0
CompletesOnceOverStops =
    (base : Rows) (log : List Item) (marks : List ℕ) (since : ℕ) (p : Past) → IsValid base → IsLawful base log → Kept base log marks since p
    → (place mark by : ℕ) (command : Command) → slice_get log place ≡ Some (Done by command) → slice_get marks place ≡ Some mark
    → (image : Image) (found : Rows) (later : List Item) (birth : ℕ) → ImagesSince p mark image → IsBoard found image → IsLawful found later
    → completions base (take (place + 1) log) birth + completions found later birth ≤ 1
