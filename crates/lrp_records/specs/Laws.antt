-- What holds of every move, whatever its cell in the table says.
use Rattle.std.specs.Prelude.{◌≡◌, ◌≢◌, ℕ, List, Some}
use Rattle.diego_names.specs.declared.instance.Instance.{Instance}
use Rattle.lrp_records.specs.Place.{place_of}
use Rattle.lrp_records.specs.States.{holder_of}
use Rattle.lrp_records.specs.declared.actual.Actual.{Actual}
use Rattle.lrp_records.specs.declared.lrp_move.LrpMove.{LrpMove}
use Rattle.lrp_records.specs.declared.lrp_move.LrpMove.TheVariants.{Claim, Restart}
use Rattle.lrp_records.specs.declared.move_end.MoveEnd.{MoveEnd}
use Rattle.lrp_records.specs.declared.move_end.MoveEnd.TheVariants.{Changed, Gone, Same, Refused}
use Rattle.lrp_records.specs.declared.refusal.LrpRefusal.TheVariants.{Held}
use Rattle.lrp_records.specs.declared.state.LrpState.TheVariants.{Unclaimed}

-- a changed row keeps its key and its presence
abbrev pub KeepsPlace : Actual → MoveEnd → Type 0
KeepsPlace row (Changed new) = place_of new ≡ place_of row
KeepsPlace row Gone = Unit {0}
KeepsPlace row Same = Unit {0}
KeepsPlace row (Refused refusal) = Unit {0}

-- a changed row keeps its domain
abbrev pub KeepsDomain : Actual → MoveEnd → Type 0
KeepsDomain row (Changed new) = new.domain ≡ row.domain
KeepsDomain row Gone = Unit {0}
KeepsDomain row Same = Unit {0}
KeepsDomain row (Refused refusal) = Unit {0}

-- a crashed row changes by a restart alone, to UNCLAIMED, and so never straight to a container
pub record ByRestart (asked : LrpMove) (new : Actual) : Type 0 where
  pub move : asked ≡ Restart
  pub state : new.state ≡ Unclaimed

-- the end is what a move may make of a crashed row
abbrev pub ChangesByRestart : LrpMove → MoveEnd → Type 0
ChangesByRestart move (Changed new) = ByRestart move new
ChangesByRestart move Gone = Unit {0}
ChangesByRestart move Same = Unit {0}
ChangesByRestart move (Refused refusal) = Unit {0}

-- a claim of a row that another container has is refused, naming that container
abbrev pub NeverTakesAClaim : Actual → LrpMove → MoveEnd → Type 0
NeverTakesAClaim row move end =
    (instance held : Instance) (cell : List ℕ) → move ≡ Claim instance cell →
    holder_of row.state ≡ Some held → instance ≢ held → end ≡ Refused (Held held)
