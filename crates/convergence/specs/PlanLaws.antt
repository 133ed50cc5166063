-- What a plan asks of each row.
use Rattle.std.specs.Prelude.{◌≡◌, ◌↔◌, List, Option, Some, None}
use Rattle.std.specs.List.{Contains}
use Rattle.std.specs.Option.{option_and_then}
use Rattle.cell_records.specs.declared.answer.Answer.{Answer}
use Rattle.crash_backoff.specs.declared.moment.Moment.{Moment}
use Rattle.bbs_model.specs.Tables.{find_actual, find_task}
use Rattle.bbs_model.specs.Valid.{IsValid}
use Rattle.bbs_model.specs.declared.command.Command.{Command}
use Rattle.bbs_model.specs.declared.command.Op.{Op}
use Rattle.bbs_model.specs.declared.rows.Rows.{Rows}
use Rattle.convergence.specs.Plans.{plan_of_answers, actual_plan, task_plan}
use Rattle.convergence.specs.Subjects.{Subject, OfCell, OfDomain, OfPlace, OfTask, OfProcess, subject_in, RiseBySubject}

-- what a plan asks of a subject: of a cell, a domain and a process nothing
abbrev pub plan_on : Rows → List Answer → Subject → Option Op
plan_on rows answers (OfCell cell) = None
plan_on rows answers (OfDomain domain) = None
plan_on rows answers (OfPlace place) = option_and_then (actual_plan answers) (find_actual rows place.0 place.1)
plan_on rows answers (OfTask name) = option_and_then (task_plan answers) (find_task rows name)
plan_on rows answers (OfProcess process) = None

-- the subjects of what a plan asks rise
abbrev pub PlanRises : Type 0
PlanRises = (rows : Rows) (answers : List Answer) (now : Moment) → IsValid rows → RiseBySubject (plan_of_answers rows answers now)

-- a command is planned at a moment exactly where it is what is asked of its subject
abbrev pub PlanIsBySubject : Type 0
PlanIsBySubject = (rows : Rows) (answers : List Answer) (now : Moment) (c : Command) → IsValid rows →
    Contains (plan_of_answers rows answers now) c ↔ ((c.now ≡ now) × (plan_on rows answers (subject_in c) ≡ Some c.op))
