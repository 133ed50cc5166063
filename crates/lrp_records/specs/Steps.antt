-- What a move makes of a row. Each field that is not named stays.
use Rattle.std.specs.Prelude.{ℕ, true, false, nat_le, Option, Some, None, if◌then◌else◌}
use Rattle.crash_backoff.specs.Backoff.{due_from, count_after}
use Rattle.crash_backoff.specs.declared.moment.Moment.{Moment}
use Rattle.diego_names.specs.declared.instance.Instance.{Instance}
use Rattle.lrp_records.specs.States.{name_of, is_same_instance}
use Rattle.lrp_records.specs.declared.actual.Actual.{Actual}
use Rattle.lrp_records.specs.declared.move_end.MoveEnd.{MoveEnd}
use Rattle.lrp_records.specs.declared.move_end.MoveEnd.TheVariants.{Changed, Same, Refused}
use Rattle.lrp_records.specs.declared.refusal.LrpRefusal.{LrpRefusal}
use Rattle.lrp_records.specs.declared.refusal.LrpRefusal.TheVariants.{NotDue, GivenUp, WrongState}
use Rattle.lrp_records.specs.declared.state.LrpState.{LrpState}
use Rattle.lrp_records.specs.declared.state.LrpState.TheVariants.{Unclaimed, Crashed}

-- the row is in another state from now on
abbrev pub turned : Actual → LrpState → Moment → MoveEnd
turned row state now = Changed (record row { state = state; since = now })

-- the same, and it is not held against it any more that it could not be placed
abbrev pub cleared : Actual → LrpState → Moment → MoveEnd
cleared row state now = Changed (record row { state = state; since = now; error = false })

-- after at most three crashes in a row it is tried again at once
abbrev pub state_after_crash : ℕ → LrpState
state_after_crash count = if nat_le count 3 then Unclaimed else Crashed

-- it crashed, after a run of that length or before it ran
abbrev pub crashed : Actual → Option ℕ → Moment → MoveEnd
crashed row ran now =
    let count = count_after row.count ran in
    Changed (record row { state = state_after_crash count; count = count; since = now })

-- it is tried again where a restart is due from that second on, if from any
abbrev pub restarted_from : Option ℕ → Actual → Moment → MoveEnd
restarted_from None row now = Refused GivenUp
restarted_from (Some at) row now = if nat_le at now.0 then turned row Unclaimed now else Refused (NotDue at)

-- it is tried again, where the wait after its last crash is over
abbrev pub restarted : Actual → Moment → MoveEnd
restarted row now = restarted_from (due_from row.since row.count) row now

-- it could not be placed, which is no change of its state
abbrev pub not_placed : Actual → MoveEnd
not_placed row = if row.error then Same else Changed (record row { error = true })

-- no such move leads from the row's state
abbrev pub wrong_state : Actual → MoveEnd
wrong_state row = Refused (WrongState (name_of row.state))

-- that end where the move names the container that has the row, and else that refusal
abbrev pub if_own : Instance → Instance → MoveEnd → LrpRefusal → MoveEnd
if_own instance held end refusal = if is_same_instance instance held then end else Refused refusal
