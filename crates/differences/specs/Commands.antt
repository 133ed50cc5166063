-- The commands of subjects that are due, by one row each.
use Rattle.std.specs.Prelude.{ℕ, ◌&&◌, Bool, not, List, ◌++◌, map, Option, Some, None, if◌then◌else◌}
use Rattle.std.specs.List.{filter_map}
use Rattle.std.specs.Option.{option_and_then, option_map}
use Rattle.crash_backoff.specs.declared.moment.Moment.{Moment}
use Rattle.diego_names.specs.declared.key.Key.{Key}
use Rattle.lrp_records.specs.States.{holder_of}
use Rattle.lrp_records.specs.declared.actual.Actual.{Actual}
use Rattle.lrp_records.specs.declared.presence.Presence.{Presence}
use Rattle.lrp_records.specs.declared.presence.Presence.TheVariants.{Ordinary, Evacuating, Suspect}
use Rattle.lrp_records.specs.declared.state.LrpState.{LrpState}
use Rattle.lrp_records.specs.declared.state.LrpState.TheVariants as lrp
use Rattle.task_records.specs.declared.state.TaskState.{TaskState}
use Rattle.task_records.specs.declared.state.TaskState.TheVariants as task
use Rattle.task_records.specs.declared.task.Task.{Task}
use Rattle.bbs_model.specs.Tables.{find_actual, find_task}
use Rattle.bbs_model.specs.Work.{at, drop_row_of, drop_suspect_of}
use Rattle.bbs_model.specs.declared.command.Command.{Command}
use Rattle.bbs_model.specs.declared.command.Op.{Op}
use Rattle.bbs_model.specs.declared.command.Op.TheVariants as op
use Rattle.bbs_model.specs.declared.rows.Rows.{Rows}
use Rattle.work_causes.specs.Causes.{Ends, going, holds_by}
use Rattle.differences.specs.Due.{DueKeys}
use Rattle.differences.specs.Noted.{Noted, ends_by, is_counted}

-- what is done about a row that stays: one whose container is lost is given back or suspected, one that crashed is
-- tried again
abbrev pub mended : Bool → Key → LrpState → Option Op
mended wanted key lrp.Unclaimed = None
mended wanted key (lrp.Claimed instance cell) = Some (op.Unclaim key instance)
mended wanted key (lrp.Running instance cell) =
    Some (if wanted then op.Suspect key instance else op.Unclaim key instance)
mended wanted key lrp.Crashed = Some (op.Restart key)

-- the row isn't wanted, and nothing keeps it
abbrev pub goes_by : Ends → Moment → Bool → Actual → Bool
goes_by ends now wanted a = not wanted && holds_by ends now (going a.domain)

-- the command at the place of an ORDINARY row that is due
abbrev pub ordinary_command : Ends → Moment → Bool → Key → Option Actual → Option Op
ordinary_command ends now wanted key None = Some (op.Make key)
ordinary_command ends now wanted key (Some a) =
    if goes_by ends now wanted a then Some (op.Remove key (holder_of a.state)) else mended wanted key a.state

-- the command at a place that is due
abbrev pub place_command : Ends → Moment → Bool → Key → Presence → Option Actual → Option Op
place_command ends now wanted key Ordinary own = ordinary_command ends now wanted key own
place_command ends now wanted key Evacuating own = option_and_then (λ (a : Actual). drop_row_of key a.state) own
place_command ends now wanted key Suspect own = option_and_then (λ (a : Actual). drop_suspect_of key a.state) own

-- the command of a task that is due, by its state
abbrev pub state_command : List ℕ → TaskState → Op
state_command name task.Pending = op.CancelTask name
state_command name (task.Running instance cell) = op.CancelTask name
state_command name (task.Completed failed) = op.ExpireTask name
state_command name (task.Resolving failed) = op.KickTask name

-- the command of a task that is due
abbrev pub task_command : List ℕ → Option Task → Option Op
task_command name row = option_map (λ (t : Task). state_command name t.state) row

-- the command of a place, read from the rows
abbrev pub command_at_place : Noted → Rows → Moment → Key × Presence → Option Op
command_at_place d rows now place = place_command (ends_by d.cells d.domains) now (is_counted d.wanted place.0)
    place.0 place.1 (find_actual rows place.0 place.1)

-- the command of a task, read from the rows
abbrev pub command_of_task : Rows → List ℕ → Option Op
command_of_task rows name = task_command name (find_task rows name)

-- the command of a cell that is due
abbrev pub vanish : List ℕ → Option Op
vanish cell = Some (op.Vanish cell)

-- the command of a domain that is due
abbrev pub forget : List ℕ → Option Op
forget domain = Some (op.Forget domain)

-- what is asked of all that is due
abbrev pub ops_of : Noted → Rows → Moment → DueKeys → List Op
ops_of d rows now due = filter_map vanish due.cells ++ (filter_map forget due.domains
    ++ (filter_map (command_at_place d rows now) due.places ++ filter_map (command_of_task rows) due.tasks))

-- the commands of all that is due
abbrev pub commands_of : Noted → Rows → Moment → DueKeys → List Command
commands_of d rows now due = map (at now) (ops_of d rows now due)
