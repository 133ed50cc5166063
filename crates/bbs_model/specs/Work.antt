-- What convergence asks of a board at a moment: each cell, each domain, each place among the actual rows and
-- each task has at most one command. The seconds are this project's own.
use Rattle.std.specs.Prelude.{ℕ, ◌+◌, ◌==◌, ◌&&◌, ◌||◌, Bool, true, false, not, List, ◌++◌, map, nat_le, Option, Some, None, if◌then◌else◌}
use Rattle.std.specs.List.{filter_map, flat_map, range_with_len}
use Rattle.std.specs.Option.{option_and_then, option_map, option_map_or}
use Rattle.cell_records.specs.Presence.{is_present}
use Rattle.cell_records.specs.declared.cell_row.CellRow.{CellRow}
use Rattle.crash_backoff.specs.Backoff.{due_from}
use Rattle.crash_backoff.specs.declared.moment.Moment.{Moment}
use Rattle.diego_names.specs.declared.key.Key.{Key}
use Rattle.lrp_records.specs.Place.{place_of, place_order}
use Rattle.lrp_records.specs.States.{holder_of}
use Rattle.lrp_records.specs.declared.actual.Actual.{Actual}
use Rattle.lrp_records.specs.declared.desired.Desired.{Desired}
use Rattle.lrp_records.specs.declared.presence.Presence.{Presence}
use Rattle.lrp_records.specs.declared.presence.Presence.TheVariants.{Ordinary, Evacuating, Suspect}
use Rattle.lrp_records.specs.declared.state.LrpState.{LrpState}
use Rattle.lrp_records.specs.declared.state.LrpState.TheVariants as lrp
use Rattle.row_tables.specs.Table.{table}
use Rattle.task_records.specs.declared.state.TaskState.{TaskState}
use Rattle.task_records.specs.declared.state.TaskState.TheVariants as task
use Rattle.task_records.specs.declared.task.Task.{Task}
use Rattle.bbs_model.specs.Domains.{is_fresh}
use Rattle.bbs_model.specs.Lrps.{is_wanted}
use Rattle.bbs_model.specs.Tables.{find_desired, find_actual, find_cell, find_domain}
use Rattle.bbs_model.specs.declared.command.Command.{Command}
use Rattle.bbs_model.specs.declared.command.Op.{Op}
use Rattle.bbs_model.specs.declared.command.Op.TheVariants as op
use Rattle.bbs_model.specs.declared.domain_row.DomainRow.{DomainRow}
use Rattle.bbs_model.specs.declared.rows.Rows.{Rows}

-- the command at this moment
abbrev pub at : Moment → Op → Command
at now asked = record { now = now; op = asked }

-- what is asked where a test holds
abbrev pub asked_if : Bool → Op → Option Op
asked_if holds asked = if holds then Some asked else None

-- the cell has joined with this epoch, and its lease holds
abbrev pub is_there : Rows → Moment → List ℕ → ℕ → Bool
is_there rows now cell epoch =
    option_map_or (λ (c : CellRow). c.epoch == epoch && is_present c now) (find_cell rows cell) false

-- the instance is wanted: its process is desired with more instances than its index
abbrev pub wants : Rows → Key → Bool
wants rows key = is_wanted (find_desired rows key.process) key.index

-- the domain is fresh: somebody vouches for its list of processes
abbrev pub fresh_in : Rows → Moment → List ℕ → Bool
fresh_in rows now domain = is_fresh (find_domain rows domain) now

-- nothing keeps a row that isn't wanted: it has no domain, or one that is fresh
abbrev pub may_go : Rows → Moment → Actual → Bool
may_go rows now a = option_map_or (fresh_in rows now) a.domain true

-- the row is to be retired: it isn't wanted, and nothing keeps it
abbrev pub is_retirable : Rows → Moment → Key → Actual → Bool
is_retirable rows now key a = not (wants rows key) && may_go rows now a

-- the container of a row's state is on a cell that isn't there
abbrev pub is_lost : Rows → Moment → LrpState → Bool
is_lost rows now lrp.Unclaimed = false
is_lost rows now (lrp.Claimed instance cell) = not (is_there rows now cell instance.epoch)
is_lost rows now (lrp.Running instance cell) = not (is_there rows now cell instance.epoch)
is_lost rows now lrp.Crashed = false

-- the state is RUNNING on a cell that is there
abbrev pub runs_in : Rows → Moment → LrpState → Bool
runs_in rows now lrp.Unclaimed = false
runs_in rows now (lrp.Claimed instance cell) = false
runs_in rows now (lrp.Running instance cell) = is_there rows now cell instance.epoch
runs_in rows now lrp.Crashed = false

-- the row is there, and RUNNING on a cell that is there
abbrev pub runs_there : Rows → Moment → Option Actual → Bool
runs_there rows now row = option_map_or (λ (a : Actual). runs_in rows now a.state) row false

-- the state is RUNNING
abbrev pub is_running : LrpState → Bool
is_running lrp.Unclaimed = false
is_running (lrp.Claimed instance cell) = false
is_running (lrp.Running instance cell) = true
is_running lrp.Crashed = false

-- the row is there, and RUNNING
abbrev pub runs : Option Actual → Bool
runs row = option_map_or (λ (a : Actual). is_running a.state) row false

-- a cell whose lease has ended is dropped
abbrev pub cell_work : CellRow → Moment → Option Op
cell_work c now = asked_if (nat_le c.until now.0) (op.Vanish c.cell)

-- a domain whose time has ended is dropped
abbrev pub domain_work : DomainRow → Moment → Option Op
domain_work d now = option_and_then (λ (until : ℕ). asked_if (nat_le until now.0) (op.Forget d.domain)) d.until

-- the container of a row whose cell isn't there is given back, or suspected where it runs and is wanted
abbrev pub given_up : Bool → Key → LrpState → Option Op
given_up wanted key lrp.Unclaimed = None
given_up wanted key (lrp.Claimed instance cell) = Some (op.Unclaim key instance)
given_up wanted key (lrp.Running instance cell) =
    Some (if wanted then op.Suspect key instance else op.Unclaim key instance)
given_up wanted key lrp.Crashed = None

-- the EVACUATING row of a state's container is dropped
abbrev pub drop_row_of : Key → LrpState → Option Op
drop_row_of key state = option_map (op.DropEvacuating key) (holder_of state)

-- so many seconds have passed since that moment
abbrev pub has_passed : ℕ → Moment → Moment → Bool
has_passed seconds since now = nat_le (since.0 + seconds) now.0

-- the moment from which an instance may be tried again, if there is one, is reached
abbrev pub is_due : Actual → Moment → Bool
is_due a now = option_map_or (λ (at : ℕ). nat_le at now.0) (due_from a.since a.count) false

-- a crashed instance is tried again once it is due
abbrev pub restart_if_due : Key → Actual → Moment → LrpState → Option Op
restart_if_due key a now lrp.Unclaimed = None
restart_if_due key a now (lrp.Claimed instance cell) = None
restart_if_due key a now (lrp.Running instance cell) = None
restart_if_due key a now lrp.Crashed = asked_if (is_due a now) (op.Restart key)

-- what is asked of an ORDINARY row, or of its place where none stands there
abbrev pub ordinary_work : Rows → Moment → Key → Option Actual → Option Op
ordinary_work rows now key None = asked_if (wants rows key) (op.Make key)
ordinary_work rows now key (Some a) =
    if is_retirable rows now key a then Some (op.Remove key (holder_of a.state))
    else if is_lost rows now a.state then given_up (wants rows key) key a.state
    else if wants rows key then restart_if_due key a now a.state
    else None

-- why an EVACUATING row has no use: it is to be retired, its instance is lost, or runs again
abbrev pub is_spent : Rows → Moment → Key → Actual → Bool
is_spent rows now key a =
    is_retirable rows now key a || is_lost rows now a.state || runs_there rows now (find_actual rows key Ordinary)

-- what is asked of an EVACUATING row
abbrev pub evacuating_work : Rows → Moment → Key → Option Actual → Option Op
evacuating_work rows now key None = None
evacuating_work rows now key (Some a) = if is_spent rows now key a then drop_row_of key a.state else None

-- the cell of a row that is RUNNING has joined anew since
abbrev pub has_joined_anew : Rows → LrpState → Bool
has_joined_anew rows lrp.Unclaimed = false
has_joined_anew rows (lrp.Claimed instance cell) = false
has_joined_anew rows (lrp.Running instance cell) =
    option_map_or (λ (c : CellRow). not (c.epoch == instance.epoch)) (find_cell rows cell) false
has_joined_anew rows lrp.Crashed = false

-- why a SUSPECT row has no use: its instance isn't wanted, runs again, or its cell has joined anew while the
-- ORDINARY row doesn't run
abbrev pub is_past : Rows → Moment → Key → Actual → Bool
is_past rows now key a =
    not (wants rows key) || runs_there rows now (find_actual rows key Ordinary)
    || (has_joined_anew rows a.state && not (runs (find_actual rows key Ordinary)))

-- the SUSPECT row of a state's container is dropped
abbrev pub drop_suspect_of : Key → LrpState → Option Op
drop_suspect_of key state = option_map (op.DropSuspect key) (holder_of state)

-- what is asked of a SUSPECT row
abbrev pub suspect_work : Rows → Moment → Key → Option Actual → Option Op
suspect_work rows now key None = None
suspect_work rows now key (Some a) = if is_past rows now key a then drop_suspect_of key a.state else None

-- what is asked of a task by its state: it is given up where its cell isn't there, or where no cell took it in
-- half an hour; a client that doesn't end has 30 seconds; an outcome that nobody takes is kept for two minutes
abbrev pub asked_of_task : Rows → Moment → Task → TaskState → Option Op
asked_of_task rows now t task.Pending = asked_if (has_passed 1800 t.since now) (op.CancelTask t.name)
asked_of_task rows now t (task.Running instance cell) =
    asked_if (not (is_there rows now cell instance.epoch)) (op.CancelTask t.name)
asked_of_task rows now t (task.Completed failed) = asked_if (has_passed 120 t.since now) (op.ExpireTask t.name)
asked_of_task rows now t (task.Resolving failed) = asked_if (has_passed 30 t.since now) (op.KickTask t.name)

-- what is asked of a task
abbrev pub task_work : Rows → Moment → Task → Option Op
task_work rows now t = asked_of_task rows now t t.state

-- what is asked of the row of an instance with this presence
abbrev pub row_work : Rows → Moment → Key → Presence → Option Op
row_work rows now key Ordinary = ordinary_work rows now key (find_actual rows key Ordinary)
row_work rows now key Evacuating = evacuating_work rows now key (find_actual rows key Evacuating)
row_work rows now key Suspect = suspect_work rows now key (find_actual rows key Suspect)

-- what is asked of a place among the actual rows
abbrev pub place_work : Rows → Moment → Key × Presence → Option Op
place_work rows now place = row_work rows now place.0 place.1

-- the place of the ORDINARY row of each wanted instance
abbrev pub wanted_places : List Desired → List (Key × Presence)
wanted_places desired = flat_map (λ (d : Desired).
    map (λ (i : ℕ). (record { process = d.process; index = i }, Ordinary)) (range_with_len 0 d.instances)) desired

-- each place at which a row stands or is wanted, once and in order
abbrev pub places : Rows → List (Key × Presence)
places rows = table place_order (λ p. p) (wanted_places rows.desired ++ map place_of rows.actual)

-- what is asked of each cell, then of each domain, then of each place, then of each task
abbrev pub asked_of_all : Rows → Moment → List Op
asked_of_all rows now =
    filter_map (λ (c : CellRow). cell_work c now) rows.cells
    ++ (filter_map (λ (d : DomainRow). domain_work d now) rows.domains
    ++ (filter_map (place_work rows now) (places rows) ++ filter_map (task_work rows now) rows.tasks))

-- what convergence asks of a board at a moment
abbrev pub work : Rows → Moment → List Command
work rows now = map (at now) (asked_of_all rows now)
