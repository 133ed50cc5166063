-- The moves on an ORDINARY row, state by state. The states are Diego's, the cases this project's own.
use Rattle.std.specs.Prelude.{◌-◌, Some, None}
use Rattle.crash_backoff.specs.declared.moment.Moment.{Moment}
use Rattle.diego_names.specs.declared.instance.Instance.{Instance}
use Rattle.lrp_records.specs.Steps.{turned, cleared, crashed, restarted, not_placed, wrong_state, if_own}
use Rattle.lrp_records.specs.declared.actual.Actual.{Actual}
use Rattle.lrp_records.specs.declared.lrp_move.LrpMove.{LrpMove}
use Rattle.lrp_records.specs.declared.lrp_move.LrpMove.TheVariants.{Claim, Start, Crash, Unclaim, Restart, Remove, PlaceFail}
use Rattle.lrp_records.specs.declared.move_end.MoveEnd.{MoveEnd}
use Rattle.lrp_records.specs.declared.move_end.MoveEnd.TheVariants.{Gone, Same, Refused}
use Rattle.lrp_records.specs.declared.refusal.LrpRefusal.TheVariants.{Held, NotRunning, WrongInstance}
use Rattle.lrp_records.specs.declared.state.LrpState.{LrpState}
use Rattle.lrp_records.specs.declared.state.LrpState.TheVariants.{Unclaimed, Claimed, Running, Crashed}

-- a move on an UNCLAIMED row
abbrev pub from_unclaimed : Actual → LrpMove → Moment → MoveEnd
from_unclaimed row (Claim instance cell) now = cleared row (Claimed instance cell) now
from_unclaimed row (Start instance cell) now = cleared row (Running instance cell) now
from_unclaimed row (Crash instance) now = Refused NotRunning
from_unclaimed row (Unclaim instance) now = Refused NotRunning
from_unclaimed row Restart now = wrong_state row
from_unclaimed row (Remove None) now = Gone
from_unclaimed row (Remove (Some instance)) now = Refused NotRunning
from_unclaimed row PlaceFail now = not_placed row

-- a move on a row that a container has CLAIMED
abbrev pub from_claimed : Actual → Instance → LrpMove → Moment → MoveEnd
from_claimed row held (Claim instance cell) now = if_own instance held Same (Held held)
from_claimed row held (Start instance cell) now = turned row (Running instance cell) now
from_claimed row held (Crash instance) now =
    if_own instance held (crashed row None now) (WrongInstance held)
from_claimed row held (Unclaim instance) now =
    if_own instance held (turned row Unclaimed now) (WrongInstance held)
from_claimed row held Restart now = wrong_state row
from_claimed row held (Remove None) now = Refused (Held held)
from_claimed row held (Remove (Some instance)) now = if_own instance held Gone (WrongInstance held)
from_claimed row held PlaceFail now = wrong_state row

-- a move on a row that a container is RUNNING
abbrev pub from_running : Actual → Instance → LrpMove → Moment → MoveEnd
from_running row held (Claim instance cell) now = if_own instance held (wrong_state row) (Held held)
from_running row held (Start instance cell) now = if_own instance held Same (Held held)
from_running row held (Crash instance) now =
    if_own instance held (crashed row (Some (now.0 - row.since.0)) now) (WrongInstance held)
from_running row held (Unclaim instance) now =
    if_own instance held (turned row Unclaimed now) (WrongInstance held)
from_running row held Restart now = wrong_state row
from_running row held (Remove None) now = Refused (Held held)
from_running row held (Remove (Some instance)) now = if_own instance held Gone (WrongInstance held)
from_running row held PlaceFail now = wrong_state row

-- a move on a CRASHED row
abbrev pub from_crashed : Actual → LrpMove → Moment → MoveEnd
from_crashed row (Claim instance cell) now = wrong_state row
from_crashed row (Start instance cell) now = wrong_state row
from_crashed row (Crash instance) now = Refused NotRunning
from_crashed row (Unclaim instance) now = Refused NotRunning
from_crashed row Restart now = restarted row now
from_crashed row (Remove None) now = Gone
from_crashed row (Remove (Some instance)) now = Refused NotRunning
from_crashed row PlaceFail now = wrong_state row

-- a move on a row, by its state
abbrev pub from_state : LrpState → Actual → LrpMove → Moment → MoveEnd
from_state Unclaimed row move now = from_unclaimed row move now
from_state (Claimed instance cell) row move now = from_claimed row instance move now
from_state (Running instance cell) row move now = from_running row instance move now
from_state Crashed row move now = from_crashed row move now

-- how a move on an ORDINARY row ends
abbrev pub lrp_move : Actual → LrpMove → Moment → MoveEnd
lrp_move row move now = from_state row.state row move now
