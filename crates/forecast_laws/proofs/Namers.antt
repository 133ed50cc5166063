-- Which row names a container of a cell that answered, and that a loss leaves no container without one.
use Rattle.std.proofs.Common.{◌≡◌, ◌⊎◌, ℕ, Bool, true, false, ◌||◌, not, List, [], Option, Some, None, refl, sym, ap, subst, ◌∙◌, inl, inr, ⊎_elim}
use Rattle.std.specs.List.{Contains}
use Rattle.std.proofs.lemmas.List.Elements.{All-contains}
use Rattle.bbs_model.specs.Tables.{find_actual, find_task}
use Rattle.bbs_model.specs.Valid.{IsValid}
use Rattle.bbs_model.specs.Work.{is_there, work}
use Rattle.bbs_model.specs.declared.rows.Rows.{Rows}
use Rattle.cell_records.specs.declared.answer.Answer.{Answer}
use Rattle.cell_records.specs.declared.container.Container.{Container}
use Rattle.cell_records.specs.declared.job_name.JobName.{JobName}
use Rattle.cell_records.specs.declared.job_name.JobName.TheVariants as job
use Rattle.container_store.specs.Changes.{is_uncompleted}
use Rattle.container_store.specs.Store.{IsGiven}
use Rattle.convergence.specs.Containers.{is_holder, is_named, is_named_for, row_names, site_of, task_names, task_site_of}
use Rattle.convergence.specs.Strays.{is_stray, strays}
use Rattle.converge_laws.specs.Accepted.{AreAccepted}
use Rattle.converge_laws.specs.Converged.{is_held}
use Rattle.converge_laws.specs.Laws.{after_plan}
use Rattle.converge_laws.proofs.Public.{held-in, named-by, named-evacuating, named-ordinary, named-task, same_instance, stray-from}
use Rattle.crash_backoff.specs.declared.moment.Moment.{Moment}
use Rattle.diego_names.specs.declared.instance.Instance.{Instance}
use Rattle.diego_names.specs.declared.key.Key.{Key}
use Rattle.lrp_records.specs.States.{holder_of}
use Rattle.lrp_records.specs.declared.actual.Actual.{Actual}
use Rattle.lrp_records.specs.declared.presence.Presence.{Presence}
use Rattle.lrp_records.specs.declared.presence.Presence.TheVariants.{Ordinary, Evacuating, Suspect}
use Rattle.lrp_records.specs.declared.state.LrpState.{LrpState}
use Rattle.lrp_records.specs.declared.state.LrpState.TheVariants as lrp
use Rattle.task_records.specs.States.{runner_of}
use Rattle.task_records.specs.declared.state.TaskState.{TaskState}
use Rattle.task_records.specs.declared.state.TaskState.TheVariants as task
use Rattle.task_records.specs.declared.task.Task.{Task}
use Rattle.what_if.specs.declared.site.Site.{Site}
use Rattle.forecast_laws.specs.Losses.{AreThoseThere, IsBehindALoss}
use Rattle.forecast_laws.proofs.Alike.{none_inside, some_one}
use Rattle.forecast_laws.proofs.Ground.{one_cell, was_there}
use Rattle.forecast_laws.proofs.HeldStill.{evacuating_held, ordinary_held, task_held}
use Rattle.forecast_laws.proofs.OrdinaryLeft.{ordinary_stays}
use Rattle.forecast_laws.proofs.OthersLeft.{evacuating_stays, running_stays}

-- the instance's row with this presence names the container there
pub record IsRowOn (rows : Rows) (key : Key) (p : Presence) (instance : Instance) (cell : List ℕ) : Type 0 where
  pub row : Actual
  pub found : find_actual rows key p ≡ Some row
  pub on : site_of row.state ≡ Some (instance, cell)

-- the task does
pub record IsTaskOn (rows : Rows) (name : List ℕ) (instance : Instance) (cell : List ℕ) : Type 0 where
  pub row : Task
  pub found : find_task rows name ≡ Some row
  pub state : row.state ≡ task.Running instance cell

-- a row of the job that isn't SUSPECT names the container there
abbrev pub IsNamedOn : JobName → Rows → Instance → List ℕ → Type 0
IsNamedOn (job.Lrp key) rows instance cell =
    IsRowOn rows key Ordinary instance cell ⊎ IsRowOn rows key Evacuating instance cell
IsNamedOn (job.Task name) rows instance cell = IsTaskOn rows name instance cell

held_where : (s : LrpState) (instance : Instance) → is_holder (holder_of s) instance ≡ true
    → (cell : List ℕ) × (site_of s ≡ Some (instance, cell))
held_where lrp.Unclaimed instance e = absurd cc
held_where (lrp.Claimed i c) instance e =
    let same : instance ≡ i = same_instance instance i e in (c, ap (λ (x : Instance). Some (x, c)) (sym same))
held_where (lrp.Running i c) instance e =
    let same : instance ≡ i = same_instance instance i e in (c, ap (λ (x : Instance). Some (x, c)) (sym same))
held_where lrp.Crashed instance e = absurd cc

run_where : (s : TaskState) (instance : Instance) → is_holder (runner_of s) instance ≡ true
    → (cell : List ℕ) × (s ≡ task.Running instance cell)
run_where task.Pending instance e = absurd cc
run_where (task.Running i c) instance e =
    let same : instance ≡ i = same_instance instance i e in (c, ap (λ (x : Instance). task.Running x c) (sym same))
run_where (task.Completed failed) instance e = absurd cc
run_where (task.Resolving failed) instance e = absurd cc

row_where : (rows : Rows) (key : Key) (p : Presence) (instance : Instance)
    → row_names (find_actual rows key p) instance ≡ true
    → (cell : List ℕ) × IsRowOn rows key p instance cell
row_where rows key p instance e =
    elim (find_actual rows key p) as (λ (o : Option Actual). find_actual rows key p ≡ o
    → row_names o instance ≡ true → (cell : List ℕ) × IsRowOn rows key p instance cell) [
      | None ↦ λ is f. absurd cc
      | (Some a) ↦ λ is f.
          let c = held_where a.state instance f in
          (c.0, record { row = a; found = is; on = c.1 })
    ] refl e

task_where : (rows : Rows) (name : List ℕ) (instance : Instance) → task_names (find_task rows name) instance ≡ true
    → (cell : List ℕ) × IsTaskOn rows name instance cell
task_where rows name instance e =
    elim (find_task rows name) as (λ (o : Option Task). find_task rows name ≡ o
    → task_names o instance ≡ true → (cell : List ℕ) × IsTaskOn rows name instance cell) [
      | None ↦ λ is f. absurd cc
      | (Some t) ↦ λ is f.
          let c = run_where t.state instance f in
          (c.0, record { row = t; found = is; state = c.1 })
    ] refl e

-- of a name each holder is one
holder_is : (s : LrpState) (instance : Instance) (cell : List ℕ) → site_of s ≡ Some (instance, cell)
    → holder_of s ≡ Some instance
holder_is lrp.Unclaimed instance cell e = absurd cc
holder_is (lrp.Claimed i c) instance cell e =
    ap (λ (p : Instance × List ℕ). Some p.0) (some_one (i, c) (instance, cell) e)
holder_is (lrp.Running i c) instance cell e =
    ap (λ (p : Instance × List ℕ). Some p.0) (some_one (i, c) (instance, cell) e)
holder_is lrp.Crashed instance cell e = absurd cc

module _ {site : Site} {lost : List (List ℕ)} {rows : Rows} {got stores : List Answer} {old now : Moment}
    (valid : IsValid rows) (those : AreThoseThere rows got now)
    (loss : IsBehindALoss site lost rows got stores old now) where
  module _ (x : Answer) (in_got : Contains got x) (c : Container) (in_x : Contains x.containers c) where
    epoch_is : c.instance.epoch ≡ x.epoch
    epoch_is = (All-contains (IsGiven x.epoch x.last) x.containers c (those.given x in_got) in_x).epoch_is

    -- what holds the container is the cell itself
    cell_is : (j : JobName) (cell : List ℕ) → is_held rows stores old j c.instance cell ≡ true → cell ≡ x.cell
    cell_is j cell held =
        let h = held-in rows stores old j c.instance cell held in
        one_cell rows old valid cell x.cell x.epoch (ap (is_there rows old cell) (sym epoch_is) ∙ h.there)
        (was_there rows lost old now loss.ended x.cell x.epoch (those.only x in_got)).0

    fine : (is_uncompleted c.state ≡ true) × (is_named rows c ≡ true)
    fine = loss.cleared.clear x c (loss.answers.still x in_got)
        (was_there rows lost old now loss.ended x.cell x.epoch (those.only x in_got)).0 in_x

    lrp_on : (key : Key) → is_named_for (job.Lrp key) rows c.instance ≡ true → IsNamedOn (job.Lrp key) rows c.instance
        x.cell
    lrp_on key e =
        let n = named-by rows key c.instance e in
        elim n.0 as (λ (p : Presence). row_names (find_actual rows key p) c.instance ≡ true
        → IsNamedOn (job.Lrp key) rows c.instance x.cell) [
          | Ordinary ↦ λ f.
              let r = row_where rows key Ordinary c.instance f in
              inl (subst (IsRowOn rows key Ordinary c.instance) (cell_is (job.Lrp r.1.row.key) r.0
              (ordinary_held those loss key r.1.row c.instance r.0 r.1.found r.1.on)) r.1)
          | Evacuating ↦ λ f.
              let r = row_where rows key Evacuating c.instance f in
              inr (subst (IsRowOn rows key Evacuating c.instance) (cell_is (job.Lrp r.1.row.key) r.0
              (evacuating_held those loss key r.1.row c.instance r.0 r.1.found r.1.on)) r.1)
          | Suspect ↦ λ f.
              let none : row_names None c.instance ≡ true =
              ap (λ (o : Option Actual). row_names o c.instance) (sym (loss.handed_on.suspect key)) ∙ f in
              absurd cc
        ] n.1

    task_on : (name : List ℕ) → is_named_for (job.Task name) rows c.instance ≡ true
        → IsNamedOn (job.Task name) rows c.instance x.cell
    task_on name e =
        let t = task_where rows name c.instance e in
        subst (IsTaskOn rows name c.instance) (cell_is (job.Task t.1.row.name) t.0
        (task_held those loss name t.1.row c.instance t.0 t.1.found (ap task_site_of t.1.state))) t.1

    named_on : (j : JobName) → is_named_for j rows c.instance ≡ true → IsNamedOn j rows c.instance x.cell
    named_on (job.Lrp key) e = lrp_on key e
    named_on (job.Task name) e = task_on name e

    -- a row that isn't SUSPECT names the container on its cell
    pub namer : IsNamedOn c.job rows c.instance x.cell
    namer = named_on c.job fine.1

    there : is_there rows now x.cell c.instance.epoch ≡ true
    there = ap (is_there rows now x.cell) epoch_is ∙ those.only x in_got

    module _ (taken : AreAccepted rows (work rows now)) where
      still_named : (j : JobName) → IsNamedOn j rows c.instance x.cell → is_named_for j (after_plan rows got now)
          c.instance ≡ true
      still_named (job.Lrp key) n =
          ⊎_elim
          (λ (r : IsRowOn rows key Ordinary c.instance x.cell).
          named-ordinary (after_plan rows got now) key r.row c.instance
          (ordinary_stays valid taken those loss key r.row r.found (λ i d e.
          subst (λ (p : Instance × List ℕ). is_there rows now p.1 p.0.epoch ≡ true)
          (some_one (c.instance, x.cell) (i, d) (sym r.on ∙ e)) there))
          (holder_is r.row.state c.instance x.cell r.on))
          (λ (r : IsRowOn rows key Evacuating c.instance x.cell).
          named-evacuating (after_plan rows got now) key r.row c.instance
          (evacuating_stays valid those loss key r.row c.instance x.cell r.found r.on there)
          (holder_is r.row.state c.instance x.cell r.on))
          n
      still_named (job.Task name) n =
          named-task (after_plan rows got now) name n.row c.instance
          (running_stays valid those loss name n.row c.instance x.cell n.found n.state there) (ap runner_of n.state)

      -- it is no stray then
      no_stray : is_stray (after_plan rows got now) c ≡ false
      no_stray =
          ap (λ (b : Bool). not b || not (is_named (after_plan rows got now) c)) fine.0
          ∙ ap not (still_named c.job namer)

  -- a loss leaves no strays
  pub none_stray : AreAccepted rows (work rows now) → strays (after_plan rows got now) got ≡ []
  none_stray taken =
      none_inside (strays (after_plan rows got now) got) (λ p inside.
      let s = stray-from (after_plan rows got now) got p.0 p.1 inside in
      let fine : is_stray (after_plan rows got now) s.2 ≡ false = no_stray s.0 s.1 s.2 s.3 taken in
      let bad : false ≡ true = sym fine ∙ s.4 in
      absurd cc)
