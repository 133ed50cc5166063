-- What a plan asks is by subject, and rises by it.
use Rattle.std.proofs.Common.{◌≡◌, ◌↔◌, ℕ, true, false, cond, List, ◌++◌, map, Option, Some, None, refl, sym, ap, subst, ◌∙◌, ⊎_elim}
use Rattle.std.proofs.lemmas.List.Elements.{Contains-append_left, Contains-append_right, Contains-append_cases}
use Rattle.std.specs.List.{Contains, filter_map}
use Rattle.std.specs.Option.{option_and_then}
use Rattle.std.specs.declared.cmp.Ordering.TheVariants.{Less}
use Rattle.cell_records.specs.declared.answer.Answer.{Answer}
use Rattle.cell_records.specs.declared.container.Container.{Container}
use Rattle.cell_records.specs.declared.container_state.ContainerState.{ContainerState}
use Rattle.cell_records.specs.declared.container_state.ContainerState.TheVariants.{Reserved, Running, Completed}
use Rattle.cell_records.specs.declared.job_name.JobName.TheVariants as job
use Rattle.container_store.specs.Changes.{is_uncompleted}
use Rattle.crash_backoff.specs.declared.moment.Moment.{Moment}
use Rattle.diego_names.proofs.Public.{IsKeyOrder-name_order}
use Rattle.diego_names.specs.Order.{name_order}
use Rattle.diego_names.specs.declared.instance.Instance.{Instance}
use Rattle.diego_names.specs.declared.key.Key.{Key}
use Rattle.lrp_records.proofs.Public.{IsKeyOrder-place_order}
use Rattle.lrp_records.specs.Place.{place_of, place_order}
use Rattle.lrp_records.specs.declared.actual.Actual.{Actual}
use Rattle.lrp_records.specs.declared.presence.Presence.{Presence}
use Rattle.lrp_records.specs.declared.presence.Presence.TheVariants.{Ordinary, Evacuating, Suspect}
use Rattle.row_tables.specs.Table.{find_row, IsRising}
use Rattle.row_tables.proofs.Public.{Contains-find_row, find_row-Contains, key-find_row}
use Rattle.task_records.specs.declared.task.Task.{Task}
use Rattle.bbs_model.specs.Tables.{task_name_of, find_actual, find_task}
use Rattle.bbs_model.specs.Valid.{IsValid}
use Rattle.bbs_model.specs.Work.{at}
use Rattle.bbs_model.specs.declared.command.Command.{Command}
use Rattle.bbs_model.specs.declared.command.Op.{Op}
use Rattle.bbs_model.specs.declared.command.Op.TheVariants as op
use Rattle.bbs_model.specs.declared.rows.Rows.{Rows}
use Rattle.convergence.specs.Containers.{Site, site_of, task_site_of}
use Rattle.convergence.specs.Plans as planned
use Rattle.convergence.specs.PlanLaws.{plan_on}
use Rattle.convergence.specs.Subjects.{Subject, OfCell, OfDomain, OfPlace, OfTask, OfProcess, subject_order, subject_of, subject_in, RiseBySubject}
use Rattle.convergence.proofs.About.{IsAbout, about_is, about_if}
use Rattle.convergence.proofs.Gathers.{Contains-map, Contains-from_map, Contains-filter_map, Contains-from_filter_map, IsRising-append, IsRising-map, IsRising-filter_map}

-- what is asked by what was told is about the row
about_asked : (s : Subject) (c : Option Container) (gone ended : Op) → subject_of gone ≡ s → subject_of ended ≡ s
    → IsAbout s (planned.asked_of_told c gone ended)
about_asked s None gone ended f g = f
about_asked s (Some c) gone ended f g = about_if s (is_uncompleted c.state) None (Some ended) tt g

about_row : (presence : Presence) (key : Key) (instance : Instance) (c : Option Container)
    → IsAbout (OfPlace (key, presence)) (planned.row_plan presence key instance c)
about_row Ordinary key instance c = about_asked (OfPlace (key, Ordinary)) c (op.Unclaim key instance)
    (op.Crash key instance) refl refl
about_row Evacuating key instance c = about_asked (OfPlace (key, Evacuating)) c (op.DropEvacuating key instance)
    (op.DropEvacuating key instance) refl refl
about_row Suspect key instance c = about_asked (OfPlace (key, Suspect)) c (op.DropSuspect key instance)
    (op.DropSuspect key instance) refl refl

about_outcome : (name : List ℕ) (instance : Instance) (state : ContainerState)
    → IsAbout (OfTask name) (planned.outcome_plan name instance state)
about_outcome name instance Reserved = tt
about_outcome name instance Running = tt
about_outcome name instance (Completed failed) = refl

about_task_row : (name : List ℕ) (instance : Instance) (c : Option Container)
    → IsAbout (OfTask name) (planned.task_row_plan name instance c)
about_task_row name instance None = refl
about_task_row name instance (Some c) = about_outcome name instance c.state

about_then : {X : Type 0} (s : Subject) (f : X → Option Op) (o : Option X) → ((x : X) → IsAbout s (f x))
    → IsAbout s (option_and_then f o)
about_then s f None h = tt
about_then s f (Some x) h = h x

about_actual : (answers : List Answer) (a : Actual) → IsAbout (OfPlace (place_of a)) (planned.actual_plan answers a)
about_actual answers a =
    about_then (OfPlace (place_of a)) (λ (site : Site). option_and_then (planned.row_plan a.presence a.key site.0)
    (planned.told_of answers (job.Lrp a.key) site)) (site_of a.state)
    (λ site. about_then (OfPlace (place_of a)) (planned.row_plan a.presence a.key site.0)
    (planned.told_of answers (job.Lrp a.key) site) (about_row a.presence a.key site.0))

about_planned_task : (answers : List Answer) (t : Task) → IsAbout (OfTask t.name) (planned.task_plan answers t)
about_planned_task answers t =
    about_then (OfTask t.name) (λ (site : Site). option_and_then (planned.task_row_plan t.name site.0)
    (planned.told_of answers (job.Task t.name) site)) (task_site_of t.state)
    (λ site. about_then (OfTask t.name) (planned.task_row_plan t.name site.0)
    (planned.told_of answers (job.Task t.name) site) (about_task_row t.name site.0))

module _ (rows : Rows) (answers : List Answer) where
  abbrev of_rows : List Op
  of_rows = filter_map (planned.actual_plan answers) rows.actual

  abbrev of_tasks : List Op
  of_tasks = filter_map (planned.task_plan answers) rows.tasks

  row_in : (o : Op) → Contains of_rows o → (a : Actual) × Contains rows.actual a
      × (planned.actual_plan answers a ≡ Some o) × (subject_of o ≡ OfPlace (place_of a))
  row_in o h =
      let r = Contains-from_filter_map (planned.actual_plan answers) rows.actual o h in (
        r.0,
        r.1,
        r.2,
        about_is (OfPlace (place_of r.0)) (planned.actual_plan answers r.0) o
            (about_actual answers r.0) r.2,
      )

  task_in : (o : Op) → Contains of_tasks o → (t : Task) × Contains rows.tasks t × (planned.task_plan answers t ≡ Some o)
      × (subject_of o ≡ OfTask t.name)
  task_in o h =
      let r = Contains-from_filter_map (planned.task_plan answers) rows.tasks o h in
      (r.0, r.1, r.2, about_is (OfTask r.0.name) (planned.task_plan answers r.0) o (about_planned_task answers r.0) r.2)

  rows_below_tasks : (a b : Op) → Contains of_rows a → Contains of_tasks b
      → subject_order (subject_of a) (subject_of b) ≡ Less
  rows_below_tasks a b f g =
      let x = row_in a f in
      let y = task_in b g in
      ap (λ s. subject_order s (subject_of b)) x.3 ∙ ap (λ s. subject_order (OfPlace (place_of x.0)) s) y.3

  pub plan_rises : (now : Moment) → IsValid rows → RiseBySubject (planned.plan_of_answers rows answers now)
  plan_rises now v =
      let places : IsRising subject_order subject_of of_rows =
      IsRising-filter_map place_order place_of subject_order subject_of OfPlace (planned.actual_plan answers)
      (λ a b. refl)
      (λ a o e. about_is (OfPlace (place_of a)) (planned.actual_plan answers a) o (about_actual answers a) e)
      rows.actual v.actual.rising in
      let tasks : IsRising subject_order subject_of of_tasks =
      IsRising-filter_map name_order task_name_of subject_order subject_of OfTask (planned.task_plan answers)
      (λ a b. refl)
      (λ t o e. about_is (OfTask t.name) (planned.task_plan answers t) o (about_planned_task answers t) e) rows.tasks
      v.tasks.rising in
      IsRising-map subject_order subject_in (at now) (planned.planned_of_all rows answers)
      (IsRising-append subject_order subject_of of_rows of_tasks places tasks rows_below_tasks)

  -- what is asked is asked of its subject
  planned_of_subject : IsValid rows → (o : Op) → Contains (planned.planned_of_all rows answers) o
      → plan_on rows answers (subject_of o) ≡ Some o
  planned_of_subject v o h =
      ⊎_elim
      (λ (f : Contains of_rows o).
      let x = row_in o f in
      ap (plan_on rows answers) x.3
      ∙ ap (option_and_then (planned.actual_plan answers))
      (find_row-Contains place_order place_of IsKeyOrder-place_order x.0 rows.actual v.actual.rising x.1) ∙ x.2)
      (λ (f : Contains of_tasks o).
      let x = task_in o f in
      ap (plan_on rows answers) x.3
      ∙ ap (option_and_then (planned.task_plan answers)) (find_row-Contains name_order task_name_of
      IsKeyOrder-name_order x.0 rows.tasks v.tasks.rising x.1) ∙ x.2)
      (Contains-append_cases of_rows of_tasks o h)

  -- what a subject is asked for is asked
  subject_is_planned : (s : Subject) (o : Op) → plan_on rows answers s ≡ Some o
      → Contains (planned.planned_of_all rows answers) o
  subject_is_planned (OfCell name) o e = absurd cc
  subject_is_planned (OfDomain name) o e = absurd cc
  subject_is_planned (OfPlace p) o e =
      elim (find_actual rows p.0 p.1) as (λ (s : Option Actual). find_actual rows p.0 p.1 ≡ s
      → option_and_then (planned.actual_plan answers) s ≡ Some o → Contains (planned.planned_of_all rows answers) o) [
        | None ↦ λ is t. absurd cc
        | (Some a) ↦ λ is t. Contains-append_left of_rows of_tasks o
            (Contains-filter_map (planned.actual_plan answers) rows.actual a o
            (Contains-find_row place_order place_of (p.0, p.1) a rows.actual is) t)
      ] refl e
  subject_is_planned (OfTask name) o e =
      elim (find_task rows name) as (λ (s : Option Task). find_task rows name ≡ s
      → option_and_then (planned.task_plan answers) s ≡ Some o → Contains (planned.planned_of_all rows answers) o) [
        | None ↦ λ is t. absurd cc
        | (Some r) ↦ λ is t. Contains-append_right of_rows of_tasks o
            (Contains-filter_map (planned.task_plan answers) rows.tasks r o
            (Contains-find_row name_order task_name_of name r rows.tasks is) t)
      ] refl e
  subject_is_planned (OfProcess name) o e = absurd cc

  pub plan_is_by_subject : (now : Moment) (c : Command) → IsValid rows
      → Contains (planned.plan_of_answers rows answers now) c
      ↔ ((c.now ≡ now) × (plan_on rows answers (subject_in c) ≡ Some c.op))
  plan_is_by_subject now c v = (
    λ h.
        let r = Contains-from_map (at now) (planned.planned_of_all rows answers) c h in
        let same : r.0 ≡ c.op = ap (λ (x : Command). x.op) r.2 in (
          sym (ap (λ (x : Command). x.now) r.2),
          subst (λ (o : Op). plan_on rows answers (subject_of o) ≡ Some o) same
              (planned_of_subject v r.0 r.1),
        ),
    λ h.
        let is : at now c.op ≡ c = ap (λ (m : Moment). at m c.op) (sym h.0) in
        subst (Contains (planned.plan_of_answers rows answers now)) is
        (Contains-map (at now) (planned.planned_of_all rows answers) c.op
        (subject_is_planned (subject_in c) c.op h.1)),
  )

-- what a plan asks of a subject is about it
pub about_plan : (rows : Rows) (answers : List Answer) (s : Subject) → IsAbout s (plan_on rows answers s)
about_plan rows answers (OfCell name) = tt
about_plan rows answers (OfDomain name) = tt
about_plan rows answers (OfPlace p) =
    elim (find_actual rows p.0 p.1) as (λ (s : Option Actual). find_actual rows p.0 p.1 ≡ s
    → IsAbout (OfPlace p) (option_and_then (planned.actual_plan answers) s)) [
      | None ↦ λ e. tt
      | (Some a) ↦ λ e. subst (λ (q : Key × Presence). IsAbout (OfPlace q) (planned.actual_plan answers a))
          (key-find_row place_order place_of IsKeyOrder-place_order p a rows.actual e) (about_actual answers a)
    ] refl
about_plan rows answers (OfTask name) =
    elim (find_task rows name) as (λ (s : Option Task). find_task rows name ≡ s
    → IsAbout (OfTask name) (option_and_then (planned.task_plan answers) s)) [
      | None ↦ λ e. tt
      | (Some t) ↦ λ e. subst (λ (n : List ℕ). IsAbout (OfTask n) (planned.task_plan answers t))
          (key-find_row name_order task_name_of IsKeyOrder-name_order name t rows.tasks e)
          (about_planned_task answers t)
    ] refl
about_plan rows answers (OfProcess name) = tt
