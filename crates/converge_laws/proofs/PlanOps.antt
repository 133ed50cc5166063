-- What rows that rest are told by the answers, and what is asked of them then.
use Rattle.std.proofs.Common.{◌≡◌, ◌⊎◌, ℕ, Bool, true, false, cond, List, Option, Some, None, refl, ap, sym, subst, ◌∙◌, inl, inr, ⊎_elim}
use Rattle.std.specs.List.{Contains}
use Rattle.std.specs.Option.{option_and_then, option_map}
use Rattle.cell_records.specs.declared.answer.Answer.{Answer}
use Rattle.cell_records.specs.declared.container.Container.{Container}
use Rattle.cell_records.specs.declared.container_state.ContainerState.{ContainerState}
use Rattle.cell_records.specs.declared.container_state.ContainerState.TheVariants.{Reserved, Running, Completed}
use Rattle.cell_records.specs.declared.job_name.JobName.{JobName}
use Rattle.cell_records.specs.declared.job_name.JobName.TheVariants as job
use Rattle.container_store.specs.Changes.{is_uncompleted}
use Rattle.crash_backoff.specs.declared.moment.Moment.{Moment}
use Rattle.diego_names.specs.declared.instance.Instance.{Instance}
use Rattle.diego_names.specs.declared.key.Key.{Key}
use Rattle.lrp_records.specs.Place.{place_of}
use Rattle.lrp_records.specs.declared.actual.Actual.{Actual}
use Rattle.lrp_records.specs.declared.presence.Presence.{Presence}
use Rattle.lrp_records.specs.declared.presence.Presence.TheVariants.{Ordinary, Evacuating, Suspect}
use Rattle.lrp_records.specs.declared.state.LrpState.TheVariants as lrp
use Rattle.task_records.specs.declared.task.Task.{Task}
use Rattle.bbs_model.specs.Tables.{find_actual, find_task}
use Rattle.bbs_model.specs.Valid.{IsValid}
use Rattle.bbs_model.specs.Work as told
use Rattle.bbs_model.specs.Work.{is_running, runs}
use Rattle.bbs_model.specs.declared.command.Command.{Command}
use Rattle.bbs_model.specs.declared.command.Op.{Op}
use Rattle.bbs_model.specs.declared.command.Op.TheVariants as op
use Rattle.bbs_model.specs.declared.rows.Rows.{Rows}
use Rattle.convergence.specs.Containers.{Site, site_of, task_site_of, container_in}
use Rattle.convergence.specs.Plans as planned
use Rattle.convergence.specs.PlanLaws.{plan_on}
use Rattle.convergence.specs.Subjects.{Subject, OfCell, OfDomain, OfPlace, OfTask, OfProcess, subject_in}
use Rattle.convergence.proofs.Public.{plan_rises, plan_is_by_subject}
use Rattle.converge_laws.specs.Accepted.{IsOfRound, AreApart}
use Rattle.converge_laws.specs.Converged.{is_held}
use Rattle.converge_laws.specs.Laws.{AreOfRound}
use Rattle.converge_laws.specs.Stages.{HaveAnswered, MayBePlaced, IsPlaceable}
use Rattle.converge_laws.proofs.Frames.{IsNoSuspicion}
use Rattle.converge_laws.proofs.Held.{found-there, held-from}
use Rattle.converge_laws.proofs.Kept.{placeable-as}
use Rattle.converge_laws.proofs.MoveEnds.{IsUnclaimed, IsToWait}
use Rattle.converge_laws.proofs.Rests.{MayStand}
use Rattle.converge_laws.proofs.Runs.{alone_unsuspected, apart_from_rising}
use Rattle.converge_laws.proofs.WorkOps.{IfAsked, asked_either, asked-then}

-- it is of a round, and suspects nothing
abbrev pub IsOfPlan : Op → Type 0
IsOfPlan o = IsOfRound o × IsNoSuspicion o

-- so is what a plan asks
round-asked : (c : Option Container) (gone ended : Op) → IsOfPlan gone → IsOfPlan ended
    → IfAsked IsOfPlan (planned.asked_of_told c gone ended)
round-asked None gone ended f g = f
round-asked (Some c) gone ended f g = asked_either IsOfPlan (is_uncompleted c.state) None (Some ended) tt g

round-row : (presence : Presence) (key : Key) (instance : Instance) (c : Option Container)
    → IfAsked IsOfPlan (planned.row_plan presence key instance c)
round-row Ordinary key instance c = round-asked c (op.Unclaim key instance) (op.Crash key instance) (tt, tt) (tt, tt)
round-row Evacuating key instance c = round-asked c (op.DropEvacuating key instance) (op.DropEvacuating key instance)
    (tt, tt) (tt, tt)
round-row Suspect key instance c = round-asked c (op.DropSuspect key instance) (op.DropSuspect key instance) (tt, tt)
    (tt, tt)

round-outcome : (name : List ℕ) (instance : Instance) (s : ContainerState)
    → IfAsked IsOfPlan (planned.outcome_plan name instance s)
round-outcome name instance Reserved = tt
round-outcome name instance Running = tt
round-outcome name instance (Completed failed) = (tt, tt)

round-task_row : (name : List ℕ) (instance : Instance) (c : Option Container)
    → IfAsked IsOfPlan (planned.task_row_plan name instance c)
round-task_row name instance None = (tt, tt)
round-task_row name instance (Some c) = round-outcome name instance c.state

round-plan : (rows : Rows) (answers : List Answer) (s : Subject) → IfAsked IsOfPlan (plan_on rows answers s)
round-plan rows answers (OfCell name) = tt
round-plan rows answers (OfDomain name) = tt
round-plan rows answers (OfPlace p) =
    asked-then IsOfPlan (planned.actual_plan answers) (find_actual rows p.0 p.1) (λ a.
    asked-then IsOfPlan (λ (site : Site). option_and_then (planned.row_plan a.presence a.key site.0)
    (planned.told_of answers (job.Lrp a.key) site)) (site_of a.state) (λ site.
    asked-then IsOfPlan (planned.row_plan a.presence a.key site.0) (planned.told_of answers (job.Lrp a.key) site)
    (round-row a.presence a.key site.0)))
round-plan rows answers (OfTask name) =
    asked-then IsOfPlan (planned.task_plan answers) (find_task rows name) (λ t.
    asked-then IsOfPlan (λ (site : Site). option_and_then (planned.task_row_plan t.name site.0)
    (planned.told_of answers (job.Task t.name) site)) (task_site_of t.state) (λ site.
    asked-then IsOfPlan (planned.task_row_plan t.name site.0) (planned.told_of answers (job.Task t.name) site)
    (round-task_row t.name site.0)))
round-plan rows answers (OfProcess name) = tt

plan-op : (rows : Rows) (answers : List Answer) (now : Moment) → IsValid rows → (c : Command)
    → Contains (planned.plan_of_answers rows answers now) c → IsOfPlan c.op
plan-op rows answers now valid c inside = subst (IfAsked IsOfPlan)
    ((plan_is_by_subject rows answers now c valid).0 inside).1 (round-plan rows answers (subject_in c))

pub plan-unsuspected : (rows : Rows) (answers : List Answer) (now : Moment) → IsValid rows → (c : Command)
    → Contains (planned.plan_of_answers rows answers now) c → IsNoSuspicion c.op
plan-unsuspected rows answers now valid c inside = (plan-op rows answers now valid c inside).1

-- its commands are apart
pub plan-apart : (rows : Rows) (answers : List Answer) (now : Moment) → IsValid rows
    → AreApart (planned.plan_of_answers rows answers now)
plan-apart rows answers now valid =
    apart_from_rising (planned.plan_of_answers rows answers now) (plan_rises rows answers now valid)
    (alone_unsuspected (planned.plan_of_answers rows answers now) (plan-unsuspected rows answers now valid))

pub plan_of_round : (rows : Rows) (answers : List Answer) (now : Moment) → IsValid rows
    → AreOfRound now (planned.plan_of_answers rows answers now)
plan_of_round rows answers now valid = record {
  ops = λ c inside. (plan-op rows answers now valid c inside).0;
  moments = λ c inside. ((plan_is_by_subject rows answers now c valid).0 inside).0;
}

module _ (rows : Rows) (got stores : List Answer) (now : Moment) (heard : HaveAnswered rows got stores now) where
  -- what a cell that is there tells of a row's container
  told-there : (j : JobName) (instance : Instance) (cell : List ℕ) → told.is_there rows now cell instance.epoch ≡ true
      → (o : Option Container) × (planned.told_of got j (instance, cell) ≡ Some o)
      × ((c : Container) → o ≡ Some c → is_uncompleted c.state ≡ true
      → is_held rows stores now j instance cell ≡ true)
  told-there j instance cell there =
      let f = found-there rows got stores now heard cell instance.epoch there in (
        container_in j instance f.answer,
        ap (option_map (container_in j instance)) f.in_got,
        λ c is runs'. held-from rows stores now j instance cell f.answer c there f.in_stores is runs',
      )

  -- so an ORDINARY row gives back its container, or has crashed, or its container is held
  abbrev pub Tells : JobName → Instance → List ℕ → Op → Op → Option Op → Type 0
  Tells j instance cell gone ended asked = (asked ≡ Some gone)
      ⊎ ((asked ≡ Some ended) ⊎ ((asked ≡ None) × (is_held rows stores now j instance cell ≡ true)))

  asked-tells : (j : JobName) (instance : Instance) (cell : List ℕ) (gone ended : Op) (o : Option Container)
      → ((c : Container) → o ≡ Some c → is_uncompleted c.state ≡ true → is_held rows stores now j instance cell ≡ true)
      → Tells j instance cell gone ended (planned.asked_of_told o gone ended)
  asked-tells j instance cell gone ended None held = inl refl
  asked-tells j instance cell gone ended (Some c) held =
      elim (is_uncompleted c.state) as (λ (b : Bool). is_uncompleted c.state ≡ b
      → Tells j instance cell gone ended (cond b None (Some ended))) [
        | true ↦ λ e. inr (inr (refl, held c refl e))
        | false ↦ λ e. inr (inl refl)
      ] refl

  row-tells : (key : Key) (presence : Presence) (a : Actual) (instance : Instance) (cell : List ℕ)
      → place_of a ≡ (key, presence) → site_of a.state ≡ Some (instance, cell)
      → told.is_there rows now cell instance.epoch ≡ true → (o : Option Container)
      × (planned.actual_plan got a ≡ planned.row_plan presence key instance o)
      × ((c : Container) → o ≡ Some c → is_uncompleted c.state ≡ true
      → is_held rows stores now (job.Lrp key) instance cell ≡ true)
  row-tells key presence a instance cell place site there =
      let t = told-there (job.Lrp key) instance cell there in (
        t.0,
        ap (λ (o : Option Site). option_and_then (λ (s : Site).
            option_and_then (planned.row_plan a.presence a.key s.0) (planned.told_of got (job.Lrp a.key) s)) o) site
            ∙ ap (λ (p : Key × Presence). option_and_then (planned.row_plan p.1 p.0 instance)
            (planned.told_of got (job.Lrp p.0) (instance, cell))) place
            ∙ ap (option_and_then (planned.row_plan presence key instance)) t.1,
        t.2,
      )

  pub ordinary-tells : (key : Key) (a : Actual) (instance : Instance) (cell : List ℕ) → place_of a ≡ (key, Ordinary)
      → site_of a.state ≡ Some (instance, cell)
      → told.is_there rows now cell instance.epoch ≡ true → Tells (job.Lrp key) instance cell (op.Unclaim key instance)
      (op.Crash key instance) (planned.actual_plan got a)
  ordinary-tells key a instance cell place site there =
      let t = row-tells key Ordinary a instance cell place site there in
      subst (Tells (job.Lrp key) instance cell (op.Unclaim key instance) (op.Crash key instance)) (sym t.1)
      (asked-tells (job.Lrp key) instance cell (op.Unclaim key instance) (op.Crash key instance) t.0 t.2)

  pub evacuating-tells : (key : Key) (a : Actual) (instance : Instance) (cell : List ℕ) → place_of a ≡ (key, Evacuating)
      → site_of a.state ≡ Some (instance, cell)
      → told.is_there rows now cell instance.epoch ≡ true → Tells (job.Lrp key) instance cell
      (op.DropEvacuating key instance) (op.DropEvacuating key instance) (planned.actual_plan got a)
  evacuating-tells key a instance cell place site there =
      let t = row-tells key Evacuating a instance cell place site there in
      subst (Tells (job.Lrp key) instance cell (op.DropEvacuating key instance) (op.DropEvacuating key instance))
      (sym t.1) (asked-tells (job.Lrp key) instance cell (op.DropEvacuating key instance)
      (op.DropEvacuating key instance) t.0 t.2)

  -- a task is given up, or has its outcome, or its container is held
  abbrev pub TellsTask : List ℕ → Instance → List ℕ → Option Op → Type 0
  TellsTask name instance cell asked = (asked ≡ Some (op.CancelTask name))
      ⊎ (((failed : Bool) × (asked ≡ Some (op.CompleteTask name instance failed)))
      ⊎ ((asked ≡ None) × (is_held rows stores now (job.Task name) instance cell ≡ true)))

  outcome-tells : (name : List ℕ) (instance : Instance) (cell : List ℕ) (s : ContainerState)
      → (is_uncompleted s ≡ true → is_held rows stores now (job.Task name) instance cell ≡ true)
      → TellsTask name instance cell (planned.outcome_plan name instance s)
  outcome-tells name instance cell Reserved held = inr (inr (refl, held refl))
  outcome-tells name instance cell Running held = inr (inr (refl, held refl))
  outcome-tells name instance cell (Completed failed) held = inr (inl (failed, refl))

  task_row-tells : (name : List ℕ) (instance : Instance) (cell : List ℕ) (o : Option Container)
      → ((c : Container) → o ≡ Some c → is_uncompleted c.state ≡ true
      → is_held rows stores now (job.Task name) instance cell ≡ true)
      → TellsTask name instance cell (planned.task_row_plan name instance o)
  task_row-tells name instance cell None held = inl refl
  task_row-tells name instance cell (Some c) held = outcome-tells name instance cell c.state (held c refl)

  pub task-tells : (name : List ℕ) (t : Task) (instance : Instance) (cell : List ℕ) → t.name ≡ name
      → task_site_of t.state ≡ Some (instance, cell)
      → told.is_there rows now cell instance.epoch ≡ true → TellsTask name instance cell (planned.task_plan got t)
  task-tells name t instance cell same site there =
      let f = told-there (job.Task name) instance cell there in
      subst (TellsTask name instance cell)
      (sym (ap (λ (o : Option Site). option_and_then (λ (s : Site).
      option_and_then (planned.task_row_plan t.name s.0) (planned.told_of got (job.Task t.name) s)) o) site
      ∙ ap (λ (n : List ℕ). option_and_then (planned.task_row_plan n instance)
      (planned.told_of got (job.Task n) (instance, cell))) same
      ∙ ap (option_and_then (planned.task_row_plan name instance)) f.1))
      (task_row-tells name instance cell f.0 f.2)

-- what a plan does to an ORDINARY row: it may be placed or is held, and it is as it was or doesn't run
abbrev pub IsDone : Rows → List Answer → Moment → Key → Option Actual → Option Actual → Type 0
IsDone rows stores now key before after = IsPlaceable rows stores now key after
    × ((after ≡ before) ⊎ (runs after ≡ false))

-- the row that is left is in this domain, and may stand there
module _ (rows : Rows) (stores : List Answer) (now : Moment) (key : Key) (before after : Option Actual)
    (domain : Option (List ℕ)) (reason : MayStand rows now key domain)
    (same : (a : Actual) → after ≡ Some a → a.domain ≡ domain) where
  placed : (a : Actual) → after ≡ Some a → MayBePlaced rows stores now a a.state → IsPlaceable rows stores now key after
  placed a is h = subst (IsPlaceable rows stores now key) (sym is)
      (placeable-as rows stores now key a (subst (MayStand rows now key) (sym (same a is)) reason) h)

  pub done-unclaimed : IsUnclaimed after → IsDone rows stores now key before after
  done-unclaimed (a, is, state) = (
    placed a is (subst (MayBePlaced rows stores now a) (sym state) tt),
    inr (ap runs is ∙ ap is_running state),
  )

  pub done-waits : IsToWait now after → IsDone rows stores now key before after
  done-waits (a, is, how) =
      ⊎_elim
      (λ (state : a.state ≡ lrp.Unclaimed). done-unclaimed (a, is, state))
      (λ (h : (a.state ≡ lrp.Crashed) × (told.is_due a now ≡ false)).
      (placed a is (subst (MayBePlaced rows stores now a) (sym h.0) h.1), inr (ap runs is ∙ ap is_running h.0)))
      how
