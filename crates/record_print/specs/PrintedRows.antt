-- The rows of the five tables, as they are printed: members in byte order of their names, and null for what isn't there.
use Rattle.std.specs.Prelude.{Bool, Option, Some, None, codes}
use Rattle.serde_json.specs.Data.{Data, boolean, string, object, member, no_members}
use Rattle.lrp_records.specs.declared.actual.Actual.{Actual}
use Rattle.lrp_records.specs.declared.desired.Desired.{Desired}
use Rattle.lrp_records.specs.States.{holder_of, name_of as lrp_name_of, cell_of}
use Rattle.task_records.specs.declared.state.TaskState.{TaskState}
use Rattle.task_records.specs.declared.state.TaskState.TheVariants as task
use Rattle.task_records.specs.declared.task.Task.{Task}
use Rattle.task_records.specs.States.{task_state_name as task_name_of, runner_of, task_cell_of}
use Rattle.cell_records.specs.declared.cell_row.CellRow.{CellRow}
use Rattle.bbs_model.specs.declared.domain_row.DomainRow.{DomainRow}
use Rattle.bbs_model.specs.declared.event.Row.{Row}
use Rattle.bbs_model.specs.declared.event.Row.TheVariants as row
use Rattle.record_print.specs.Words.{presence_word, state_word}
use Rattle.line_writing.specs.Spelled.{whole, optional_number_data, optional_name_data, optional_instance_data, optional_truth_data}

-- whether a task failed, once it has its outcome
abbrev pub failed_of : TaskState → Option Bool
failed_of task.Pending = None
failed_of (task.Running instance cell) = None
failed_of (task.Completed failed) = Some failed
failed_of (task.Resolving failed) = Some failed

-- the row of a desired process
abbrev pub desired_data : Desired → Data
desired_data d =
    object
    (member (codes "disk") (whole d.disk)
    (member (codes "domain") (string d.domain)
    (member (codes "instances") (whole d.instances)
    (member (codes "memory") (whole d.memory)
    (member (codes "port") (whole d.port)
    (member (codes "process") (string d.process)
    (member (codes "route") (optional_name_data d.route)
    (member (codes "tag") (optional_name_data d.tag) no_members))))))))

-- the row of an instance; its domain isn't printed
abbrev pub actual_data : Actual → Data
actual_data a =
    object
    (member (codes "cell") (optional_name_data (cell_of a.state))
    (member (codes "count") (whole a.count)
    (member (codes "error") (boolean a.error)
    (member (codes "index") (whole a.key.index)
    (member (codes "instance") (optional_instance_data (holder_of a.state))
    (member (codes "presence") (string (presence_word a.presence))
    (member (codes "process") (string a.key.process)
    (member (codes "since") (whole a.since.0)
    (member (codes "state") (string (state_word (lrp_name_of a.state))) no_members)))))))))

-- the row of a task
abbrev pub task_data : Task → Data
task_data t =
    object
    (member (codes "birth") (whole t.birth)
    (member (codes "cell") (optional_name_data (task_cell_of t.state))
    (member (codes "disk") (whole t.disk)
    (member (codes "failed") (optional_truth_data (failed_of t.state))
    (member (codes "instance") (optional_instance_data (runner_of t.state))
    (member (codes "memory") (whole t.memory)
    (member (codes "name") (string t.name)
    (member (codes "since") (whole t.since.0)
    (member (codes "state") (string (state_word (task_name_of t.state)))
    (member (codes "tag") (optional_name_data t.tag) no_members))))))))))

-- the row of a cell
abbrev pub cell_data : CellRow → Data
cell_data c =
    object
    (member (codes "cell") (string c.cell)
    (member (codes "containers") (whole c.totals.containers)
    (member (codes "disk") (whole c.totals.disk)
    (member (codes "epoch") (whole c.epoch)
    (member (codes "evacuating") (boolean c.evacuating)
    (member (codes "memory") (whole c.totals.memory)
    (member (codes "tag") (optional_name_data c.tag)
    (member (codes "until") (whole c.until)
    (member (codes "zone") (string c.zone) no_members)))))))))

-- the row of a domain, whose end is null where it holds for ever
abbrev pub domain_data : DomainRow → Data
domain_data d =
    object
    (member (codes "domain") (string d.domain)
    (member (codes "until") (optional_number_data d.until) no_members))

-- a row
abbrev pub row_data : Row → Data
row_data (row.Desired d) = desired_data d
row_data (row.Actual a) = actual_data a
row_data (row.Task t) = task_data t
row_data (row.Cell c) = cell_data c
row_data (row.Domain d) = domain_data d
