-- The laws of moves, for whoever speaks of the table alone.
use Rattle.std.proofs.Common.{◌≡◌, subst, arith}
use Rattle.std.proofs.lemmas.Grind.{common_steps}
use Rattle.crash_backoff.specs.declared.moment.Moment.{Moment}
use Rattle.lrp_records.specs.Laws.{KeepsPlace, KeepsDomain, ChangesByRestart, NeverTakesAClaim}
use Rattle.lrp_records.specs.Moves.{lrp_move}
use Rattle.lrp_records.specs.Place.{place_of}
use Rattle.lrp_records.specs.declared.actual.Actual.{Actual}
use Rattle.lrp_records.specs.declared.lrp_move.LrpMove.{LrpMove}
use Rattle.lrp_records.specs.declared.move_end.MoveEnd.TheVariants.{Changed}
use Rattle.lrp_records.specs.declared.state.LrpState.TheVariants.{Crashed}

-- a changed row keeps its key and its presence
pub KeepsPlace-lrp_move : (row : Actual) (move : LrpMove) (now : Moment) → KeepsPlace row (lrp_move row move now)
KeepsPlace-lrp_move row move now = grind (arith, common_steps)

-- a changed row keeps its domain
pub KeepsDomain-lrp_move : (row : Actual) (move : LrpMove) (now : Moment) → KeepsDomain row (lrp_move row move now)
KeepsDomain-lrp_move row move now = grind (arith, common_steps)

pub place_of-changed : (row new : Actual) (move : LrpMove) (now : Moment) → lrp_move row move now ≡ Changed new
    → place_of new ≡ place_of row
place_of-changed row new move now is = subst (KeepsPlace row) is (KeepsPlace-lrp_move row move now)

-- a crashed row changes by a restart alone
pub ChangesByRestart-lrp_move : (row : Actual) (move : LrpMove) (now : Moment) → row.state ≡ Crashed
    → ChangesByRestart move (lrp_move row move now)
ChangesByRestart-lrp_move row move now is = grind (arith, common_steps)

-- a claim never takes another container's row
pub NeverTakesAClaim-lrp_move : (row : Actual) (move : LrpMove) (now : Moment)
    → NeverTakesAClaim row move (lrp_move row move now)
NeverTakesAClaim-lrp_move row move now instance held cell is has other = grind (arith, common_steps)
