-- What is asked of a subject is about it.
use Rattle.std.proofs.Common.{◌≡◌, ℕ, Bool, true, false, cond, not, nat_le, List, Option, Some, None, refl, subst}
use Rattle.std.specs.Option.{option_and_then}
use Rattle.cell_records.specs.declared.cell_row.CellRow.{CellRow}
use Rattle.crash_backoff.specs.declared.moment.Moment.{Moment}
use Rattle.diego_names.proofs.Public.{IsKeyOrder-name_order}
use Rattle.diego_names.specs.Order.{name_order}
use Rattle.diego_names.specs.declared.instance.Instance.{Instance}
use Rattle.diego_names.specs.declared.key.Key.{Key}
use Rattle.lrp_records.specs.States.{holder_of}
use Rattle.lrp_records.specs.declared.actual.Actual.{Actual}
use Rattle.lrp_records.specs.declared.presence.Presence.{Presence}
use Rattle.lrp_records.specs.declared.presence.Presence.TheVariants.{Ordinary, Evacuating, Suspect}
use Rattle.lrp_records.specs.declared.state.LrpState.{LrpState}
use Rattle.lrp_records.specs.declared.state.LrpState.TheVariants as lrp
use Rattle.row_tables.proofs.Public.{key-find_row}
use Rattle.task_records.specs.declared.state.TaskState.{TaskState}
use Rattle.task_records.specs.declared.state.TaskState.TheVariants as task
use Rattle.task_records.specs.declared.task.Task.{Task}
use Rattle.bbs_model.specs.Tables.{cell_name_of, domain_name_of, task_name_of, find_actual, find_cell, find_domain, find_task}
use Rattle.bbs_model.specs.Work as told
use Rattle.bbs_model.specs.declared.command.Op.{Op}
use Rattle.bbs_model.specs.declared.command.Op.TheVariants as op
use Rattle.bbs_model.specs.declared.domain_row.DomainRow.{DomainRow}
use Rattle.bbs_model.specs.declared.rows.Rows.{Rows}
use Rattle.convergence.specs.Subjects.{Subject, OfCell, OfDomain, OfPlace, OfTask, OfProcess, subject_of, work_on}

-- the command, if there is one, is about the subject
abbrev pub IsAbout : Subject → Option Op → Type 0
IsAbout s None = Unit {0}
IsAbout s (Some o) = subject_of o ≡ s

pub about_is : (s : Subject) (asked : Option Op) (o : Op) → IsAbout s asked → asked ≡ Some o → subject_of o ≡ s
about_is s asked o h e = subst (IsAbout s) e h

pub about_if : (s : Subject) (b : Bool) (x y : Option Op) → IsAbout s x → IsAbout s y → IsAbout s (cond b x y)
about_if s true x y f g = f
about_if s false x y f g = g

pub about_cell : (c : CellRow) (now : Moment) → IsAbout (OfCell c.cell) (told.cell_work c now)
about_cell c now = about_if (OfCell c.cell) (nat_le c.until now.0) (Some (op.Vanish c.cell)) None refl tt

pub about_domain : (d : DomainRow) (now : Moment) → IsAbout (OfDomain d.domain) (told.domain_work d now)
about_domain d now =
    elim d.until as (λ (u : Option ℕ). IsAbout (OfDomain d.domain)
    (option_and_then (λ (until : ℕ). told.asked_if (nat_le until now.0) (op.Forget d.domain)) u)) [
      | None ↦ tt
      | (Some u) ↦ about_if (OfDomain d.domain) (nat_le u now.0) (Some (op.Forget d.domain)) None refl tt
    ]

about_running : (key : Key) (instance : Instance) (wanted : Bool)
    → IsAbout (OfPlace (key, Ordinary)) (Some (cond wanted (op.Suspect key instance) (op.Unclaim key instance)))
about_running key instance true = refl
about_running key instance false = refl

about_given : (wanted : Bool) (key : Key) (state : LrpState)
    → IsAbout (OfPlace (key, Ordinary)) (told.given_up wanted key state)
about_given wanted key lrp.Unclaimed = tt
about_given wanted key (lrp.Claimed instance cell) = refl
about_given wanted key (lrp.Running instance cell) = about_running key instance wanted
about_given wanted key lrp.Crashed = tt

about_drop : (key : Key) (state : LrpState) → IsAbout (OfPlace (key, Evacuating)) (told.drop_row_of key state)
about_drop key lrp.Unclaimed = tt
about_drop key (lrp.Claimed instance cell) = refl
about_drop key (lrp.Running instance cell) = refl
about_drop key lrp.Crashed = tt

about_drop_suspect : (key : Key) (state : LrpState) → IsAbout (OfPlace (key, Suspect)) (told.drop_suspect_of key state)
about_drop_suspect key lrp.Unclaimed = tt
about_drop_suspect key (lrp.Claimed instance cell) = refl
about_drop_suspect key (lrp.Running instance cell) = refl
about_drop_suspect key lrp.Crashed = tt

about_restart : (key : Key) (a : Actual) (now : Moment) (state : LrpState)
    → IsAbout (OfPlace (key, Ordinary)) (told.restart_if_due key a now state)
about_restart key a now lrp.Unclaimed = tt
about_restart key a now (lrp.Claimed instance cell) = tt
about_restart key a now (lrp.Running instance cell) = tt
about_restart key a now lrp.Crashed = about_if (OfPlace (key, Ordinary)) (told.is_due a now)
    (Some (op.Restart key)) None refl tt

about_ordinary : (rows : Rows) (now : Moment) (key : Key) (row : Option Actual)
    → IsAbout (OfPlace (key, Ordinary)) (told.ordinary_work rows now key row)
about_ordinary rows now key None = about_if (OfPlace (key, Ordinary)) (told.wants rows key)
    (Some (op.Make key)) None refl tt
about_ordinary rows now key (Some a) =
    let s = OfPlace (key, Ordinary) in
    let wanted = told.wants rows key in
    let lost = told.is_lost rows now a.state in
    let given = told.given_up wanted key a.state in
    let restart = told.restart_if_due key a now a.state in
    let again = cond wanted restart None in
    about_if s (told.is_retirable rows now key a) (Some (op.Remove key (holder_of a.state)))
    (cond lost given again) refl
    (about_if s lost given again (about_given wanted key a.state)
    (about_if s wanted restart None (about_restart key a now a.state) tt))

about_evacuating : (rows : Rows) (now : Moment) (key : Key) (row : Option Actual)
    → IsAbout (OfPlace (key, Evacuating)) (told.evacuating_work rows now key row)
about_evacuating rows now key None = tt
about_evacuating rows now key (Some a) =
    about_if (OfPlace (key, Evacuating)) (told.is_spent rows now key a) (told.drop_row_of key a.state) None
    (about_drop key a.state) tt

about_suspect : (rows : Rows) (now : Moment) (key : Key) (row : Option Actual)
    → IsAbout (OfPlace (key, Suspect)) (told.suspect_work rows now key row)
about_suspect rows now key None = tt
about_suspect rows now key (Some a) =
    about_if (OfPlace (key, Suspect)) (told.is_past rows now key a) (told.drop_suspect_of key a.state) None
    (about_drop_suspect key a.state) tt

pub about_place : (rows : Rows) (now : Moment) (place : Key × Presence)
    → IsAbout (OfPlace place) (told.place_work rows now place)
about_place rows now (key, Ordinary) = about_ordinary rows now key (find_actual rows key Ordinary)
about_place rows now (key, Evacuating) = about_evacuating rows now key (find_actual rows key Evacuating)
about_place rows now (key, Suspect) = about_suspect rows now key (find_actual rows key Suspect)

about_state : (rows : Rows) (now : Moment) (t : Task) (state : TaskState)
    → IsAbout (OfTask t.name) (told.asked_of_task rows now t state)
about_state rows now t task.Pending =
    about_if (OfTask t.name) (told.has_passed 1800 t.since now) (Some (op.CancelTask t.name)) None refl tt
about_state rows now t (task.Running instance cell) =
    about_if (OfTask t.name) (not (told.is_there rows now cell instance.epoch))
    (Some (op.CancelTask t.name)) None refl tt
about_state rows now t (task.Completed failed) =
    about_if (OfTask t.name) (told.has_passed 120 t.since now) (Some (op.ExpireTask t.name)) None refl tt
about_state rows now t (task.Resolving failed) =
    about_if (OfTask t.name) (told.has_passed 30 t.since now) (Some (op.KickTask t.name)) None refl tt

pub about_task : (rows : Rows) (now : Moment) (t : Task) → IsAbout (OfTask t.name) (told.task_work rows now t)
about_task rows now t = about_state rows now t t.state

-- what is asked of a subject is about it
pub about_work : (rows : Rows) (now : Moment) (s : Subject) → IsAbout s (work_on rows now s)
about_work rows now (OfCell name) =
    elim (find_cell rows name) as (λ (s : Option CellRow). find_cell rows name ≡ s
    → IsAbout (OfCell name) (option_and_then (λ (c : CellRow). told.cell_work c now) s)) [
      | None ↦ λ e. tt
      | (Some c) ↦ λ e. subst (λ (n : List ℕ). IsAbout (OfCell n) (told.cell_work c now))
          (key-find_row name_order cell_name_of IsKeyOrder-name_order name c rows.cells e) (about_cell c now)
    ] refl
about_work rows now (OfDomain name) =
    elim (find_domain rows name) as (λ (s : Option DomainRow). find_domain rows name ≡ s
    → IsAbout (OfDomain name) (option_and_then (λ (d : DomainRow). told.domain_work d now) s)) [
      | None ↦ λ e. tt
      | (Some d) ↦ λ e. subst (λ (n : List ℕ). IsAbout (OfDomain n) (told.domain_work d now))
          (key-find_row name_order domain_name_of IsKeyOrder-name_order name d rows.domains e) (about_domain d now)
    ] refl
about_work rows now (OfPlace p) = about_place rows now p
about_work rows now (OfTask name) =
    elim (find_task rows name) as (λ (s : Option Task). find_task rows name ≡ s
    → IsAbout (OfTask name) (option_and_then (told.task_work rows now) s)) [
      | None ↦ λ e. tt
      | (Some t) ↦ λ e. subst (λ (n : List ℕ). IsAbout (OfTask n) (told.task_work rows now t))
          (key-find_row name_order task_name_of IsKeyOrder-name_order name t rows.tasks e) (about_task rows now t)
    ] refl
about_work rows now (OfProcess name) = tt
