-- The step of a command: its verdict, the rows after it, and the events.
use Rattle.std.specs.Prelude.{◌≡◌, ℕ, ◌+◌, Bool, nat_le, Option, Some, None, is_some, if◌then◌else◌}
use Rattle.crash_backoff.specs.declared.moment.Moment.{Moment}
use Rattle.lrp_records.specs.declared.lrp_move.LrpMove.TheVariants as lrp
use Rattle.task_records.specs.declared.move_kind.TaskMove.TheVariants as task
use Rattle.bbs_model.specs.Cells.{join, renew, drain, vanish}
use Rattle.bbs_model.specs.Domains.{fresh, forget}
use Rattle.bbs_model.specs.Found.{found_by}
use Rattle.bbs_model.specs.Limits.{most_transitions}
use Rattle.bbs_model.specs.Lrps.{make, move_lrp, move_lrp_by_cell, evacuate, drop_evacuating, suspect, drop_suspect}
use Rattle.bbs_model.specs.Processes.{desire, update, undesire}
use Rattle.bbs_model.specs.Tables.{find_desired, find_actual, find_task, find_cell, find_domain, put_desired, put_actual, put_task, put_cell, put_domain, without_desired, without_actual, without_task, without_cell, without_domain}
use Rattle.bbs_model.specs.Tasks.{new_task, move_task, move_task_by_cell}
use Rattle.bbs_model.specs.declared.attempt.Attempt.{Attempt}
use Rattle.bbs_model.specs.declared.attempt.Attempt.TheVariants.{Refuse, Keep, Change}
use Rattle.bbs_model.specs.declared.attempt.Edit.{Edit}
use Rattle.bbs_model.specs.declared.attempt.Edit.TheVariants.{Put, Drop}
use Rattle.bbs_model.specs.declared.command.Command.{Command}
use Rattle.bbs_model.specs.declared.command.Op.{Op}
use Rattle.bbs_model.specs.declared.command.Op.TheVariants as op
use Rattle.bbs_model.specs.declared.event.Change.TheVariants.{Created, Changed, Removed}
use Rattle.bbs_model.specs.declared.event.Event.{Event}
use Rattle.bbs_model.specs.declared.event.Events.{Events}
use Rattle.bbs_model.specs.declared.event.Row.{Row}
use Rattle.bbs_model.specs.declared.event.Row.TheVariants as row
use Rattle.bbs_model.specs.declared.found.Found.{Found}
use Rattle.bbs_model.specs.declared.rows.Rows.{Rows}
use Rattle.bbs_model.specs.declared.verdict.BoardRefusal.TheVariants.{BoardFull}
use Rattle.bbs_model.specs.declared.verdict.Verdict.{Verdict}
use Rattle.bbs_model.specs.declared.verdict.Verdict.TheVariants as verdict

-- what an operation comes to at a moment, by what the board has at its keys
abbrev pub attempt_at : Found → Moment → Op → Attempt
attempt_at found now (op.Desire desired) = desire found desired
attempt_at found now (op.Update process instances route port) = update found instances route port
attempt_at found now (op.Undesire process) = undesire found
attempt_at found now (op.Make key) = make found key now
attempt_at found now (op.Claim key instance cell) = move_lrp_by_cell found instance.epoch (lrp.Claim instance cell) now
attempt_at found now (op.Start key instance cell) = move_lrp_by_cell found instance.epoch (lrp.Start instance cell) now
attempt_at found now (op.Crash key instance) = move_lrp found (lrp.Crash instance) now
attempt_at found now (op.Unclaim key instance) = move_lrp found (lrp.Unclaim instance) now
attempt_at found now (op.Restart key) = move_lrp found lrp.Restart now
attempt_at found now (op.Remove key instance) = move_lrp found (lrp.Remove instance) now
attempt_at found now (op.PlaceFail key) = move_lrp found lrp.PlaceFail now
attempt_at found now (op.Evacuate key instance) = evacuate found instance now
attempt_at found now (op.DropEvacuating key instance) = drop_evacuating found instance
attempt_at found now (op.NewTask name memory disk tag) = new_task found name memory disk tag now
attempt_at found now (op.StartTask name instance cell) = move_task_by_cell found instance.epoch (task.Start instance cell) now
attempt_at found now (op.CompleteTask name instance failed) = move_task found (task.Complete instance failed) now
attempt_at found now (op.CancelTask name) = move_task found task.Cancel now
attempt_at found now (op.ResolveTask name) = move_task found task.Resolve now
attempt_at found now (op.DeleteTask name) = move_task found task.Delete now
attempt_at found now (op.KickTask name) = move_task found task.Kick now
attempt_at found now (op.ExpireTask name) = move_task found task.Expire now
attempt_at found now (op.Join cell zone tag totals ttl) = join found cell zone tag totals ttl now
attempt_at found now (op.Renew cell epoch ttl) = renew found epoch ttl now
attempt_at found now (op.Drain cell epoch) = drain found epoch
attempt_at found now (op.Vanish cell) = vanish found.cell now
attempt_at found now (op.Fresh domain ttl) = fresh found domain ttl now
attempt_at found now (op.Forget domain) = forget found now
attempt_at found now (op.Suspect key instance) = suspect found instance now
attempt_at found now (op.DropSuspect key instance) = drop_suspect found instance

-- what a command comes to on a board, were its life not at its end
abbrev pub attempt_of : Rows → Command → Attempt
attempt_of rows command = attempt_at (found_by rows command.op) command.now command.op

-- the verdict of an attempt: a change is refused where the board has made its last transition
abbrev pub judged : ℕ → Attempt → Verdict
judged next (Refuse why) = verdict.Refused why
judged next Keep = verdict.Same
judged next (Change first second) =
    if nat_le most_transitions next then verdict.Refused BoardFull else verdict.Ok

-- what the step of a command comes to
abbrev pub verdict_of : Rows → Command → Verdict
verdict_of rows command = judged rows.next (attempt_of rows command)

-- the command changes the rows
abbrev pub IsLegal : Rows → Command → Type 0
IsLegal rows command = verdict_of rows command ≡ verdict.Ok

-- the rows with this one in its place
abbrev pub with_row : Rows → Row → Rows
with_row rows (row.Desired d) = put_desired rows d
with_row rows (row.Actual a) = put_actual rows a
with_row rows (row.Task t) = put_task rows t
with_row rows (row.Cell c) = put_cell rows c
with_row rows (row.Domain d) = put_domain rows d

-- the rows without one in the place of this
abbrev pub without_place_of : Rows → Row → Rows
without_place_of rows (row.Desired d) = without_desired rows d.process
without_place_of rows (row.Actual a) = without_actual rows a.key a.presence
without_place_of rows (row.Task t) = without_task rows t.name
without_place_of rows (row.Cell c) = without_cell rows c.cell
without_place_of rows (row.Domain d) = without_domain rows d.domain

-- the rows after an edit
abbrev pub edited : Rows → Edit → Rows
edited rows (Put r) = with_row rows r
edited rows (Drop r) = without_place_of rows r

-- the rows after a further edit, if there is one
abbrev pub edited_again : Rows → Option Edit → Rows
edited_again rows None = rows
edited_again rows (Some edit) = edited rows edit

-- one transition more
abbrev pub advanced : Rows → Rows
advanced rows = record rows { next = rows.next + 1 }

-- the rows after an attempt
abbrev pub changed_by : Rows → Attempt → Rows
changed_by rows (Refuse why) = rows
changed_by rows Keep = rows
changed_by rows (Change first second) = advanced (edited_again (edited rows first) second)

-- the rows after a legal command: each makes one transition
abbrev pub rows_after : Rows → Command → Rows
rows_after rows command = changed_by rows (attempt_of rows command)

-- there is a row in the place of this
abbrev pub has_place_of : Rows → Row → Bool
has_place_of rows (row.Desired d) = is_some (find_desired rows d.process)
has_place_of rows (row.Actual a) = is_some (find_actual rows a.key a.presence)
has_place_of rows (row.Task t) = is_some (find_task rows t.name)
has_place_of rows (row.Cell c) = is_some (find_cell rows c.cell)
has_place_of rows (row.Domain d) = is_some (find_domain rows d.domain)

-- what an edit does to a row: the row after it, or the one that it takes away
abbrev pub event_of : Rows → Edit → Event
event_of rows (Put r) = record { change = if has_place_of rows r then Changed else Created; row = r }
event_of rows (Drop r) = record { change = Removed; row = r }

-- the event of a further edit, if there is one
abbrev pub event_again : Rows → Option Edit → Option Event
event_again rows None = None
event_again rows (Some edit) = Some (event_of rows edit)

-- the events of an attempt that changes the rows
abbrev pub events_in : Rows → Attempt → Option Events
events_in rows (Refuse why) = None
events_in rows Keep = None
events_in rows (Change first second) =
    Some (record { first = event_of rows first; second = event_again (edited rows first) second })

-- the events of a legal command
abbrev pub events_of : Rows → Command → Option Events
events_of rows command = events_in rows (attempt_of rows command)
