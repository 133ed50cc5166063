-- What becomes of tasks once those that wait are claimed.
use Rattle.std.proofs.Common.{◌≡◌, ◌≢◌, ◌⊎◌, ℕ, true, false, List, Option, Some, None, refl, ap, sym, ◌∙◌, subst, inl, inr, ⊎_elim}
use Rattle.std.specs.List.{Contains}
use Rattle.cell_records.specs.declared.answer.Answer.{Answer}
use Rattle.cell_records.specs.declared.job_name.JobName.{JobName}
use Rattle.cell_records.specs.declared.job_name.JobName.TheVariants as job
use Rattle.crash_backoff.specs.declared.moment.Moment.{Moment}
use Rattle.diego_names.specs.declared.instance.Instance.{Instance}
use Rattle.lrp_records.specs.States.{is_same_instance}
use Rattle.task_records.specs.declared.state.TaskState.{TaskState}
use Rattle.task_records.specs.declared.state.TaskState.TheVariants as task
use Rattle.task_records.specs.declared.task.Task.{Task}
use Rattle.bbs_model.specs.Runs.{state_after_all}
use Rattle.bbs_model.specs.Tables.{find_task}
use Rattle.task_records.specs.States.{runner_of}
use Rattle.bbs_model.specs.Work.{is_there}
use Rattle.bbs_model.specs.declared.command.Command.{Command}
use Rattle.bbs_model.specs.declared.command.Op.TheVariants as op
use Rattle.bbs_model.specs.declared.rows.Rows.{Rows}
use Rattle.convergence.specs.Containers.{task_names, is_holder}
use Rattle.convergence.specs.Subjects.{OfTask, subject_in}
use Rattle.converge_laws.specs.Converged.{IsTaskSettled}
use Rattle.converge_laws.specs.Stages.{IsClaimOf, MayTaskBePlaced, IsTaskPlaceable}
use Rattle.converge_laws.proofs.Frames.{stays-task}
use Rattle.converge_laws.proofs.Held.{held-ground}
use Rattle.converge_laws.proofs.Naming.{instance_itself}
use Rattle.converge_laws.proofs.OwnClaims.{task-taken}
use Rattle.converge_laws.proofs.Runs.{about_some, run-other}
use Rattle.converge_laws.proofs.TaskMoves.{IsNowRunning}
use Rattle.converge_laws.proofs.Claims.{subject_for, claim-about, same_task_as, IsClaiming, of_round, ground, held-more, held-new}

module _ (rows : Rows) (before after : List Answer) (now : Moment) (cs : List Command)
    (g : IsClaiming rows before after now cs) where
  abbrev new : Rows
  new = state_after_all rows cs

  module _ (name : List ℕ) where
    abbrev the_task : Rows → Option Task
    the_task r = find_task r name

    -- what becomes of a claimed task
    record IsTaskClaimed : Type 0 where
      pub command : Command
      pub instance : Instance
      pub cell : List ℕ
      pub inside : Contains cs command
      pub claims : command.op ≡ op.StartTask name instance cell
      pub there : is_there rows now cell instance.epoch ≡ true
      pub old : Task
      pub was : the_task rows ≡ Some old
      pub now_running : IsNowRunning old instance cell (the_task new)

    task-claimed : (c : Command) (instance : Instance) (cell : List ℕ) → Contains cs c
        → c.op ≡ op.StartTask name instance cell
        → (old : Task) × (the_task rows ≡ Some old) × IsNowRunning old instance cell (the_task new)
    task-claimed c instance cell inside claims =
        task-taken rows now cs (of_round rows before after now cs g) g.apart g.taken name c instance cell inside claims

    task-fate : IsTaskClaimed ⊎ ((the_task new ≡ the_task rows)
        × ((c : Command) → Contains cs c → subject_in c ≢ OfTask name))
    task-fate =
        ⊎_elim
        (λ (found : (c : Command) × Contains cs c × (subject_in c ≡ OfTask name)).
        let p = g.places.claims found.0 found.1 in
        let about : subject_for p.0 ≡ OfTask name = sym (claim-about p.0 p.1 p.2 found.0.op p.3) ∙ found.2 in
        let claims : found.0.op ≡ op.StartTask name p.1 p.2 =
        subst (λ (j : JobName). IsClaimOf j p.1 p.2 found.0.op) (same_task_as p.0 name about) p.3 in
        let r = task-claimed found.0 p.1 p.2 found.1 claims in
        inl (record {
          command = found.0;
          instance = p.1;
          cell = p.2;
          inside = found.1;
          claims = claims;
          there =
              p.4;
          old = r.0;
          was = r.1;
          now_running = r.2;
        }))
        (λ (none : (c : Command) → Contains cs c → subject_in c ≢ OfTask name).
        inr (
          run-other the_task (λ (d : Command). subject_in d ≢ OfTask name)
              (λ r d h other. stays-task r d h name other) rows cs (of_round rows before after now cs g).ops none,
          none,
        ))
        (about_some (OfTask name) cs)

    -- the task, if there is one, is settled
    abbrev pub IsTaskAt : Option Task → Type 0
    IsTaskAt None = Unit {0}
    IsTaskAt (Some t) = IsTaskSettled new after now name t.state

    task-kept : (t : Task) (s : TaskState) → t.state ≡ s → (t.state ≡ task.Pending → ⊥)
        → MayTaskBePlaced rows before now name s → IsTaskSettled new after now name s
    task-kept t task.Pending state claimed' h = claimed' state
    task-kept t (task.Running instance cell) state claimed' h =
        held-ground rows new after now (job.Task name) instance cell
        ((ground rows before after now cs g).there cell instance.epoch) ∙ (held-more rows before after now cs g)
        (job.Task name) instance cell h
    task-kept t (task.Completed failed) state claimed' h = tt
    task-kept t (task.Resolving failed) state claimed' h = tt

    task-settled : (t : Task) → the_task rows ≡ Some t → (t.state ≡ task.Pending → ⊥)
        → IsTaskSettled new after now name t.state
    task-settled t is claimed' = task-kept t t.state refl claimed'
        (subst (IsTaskPlaceable rows before now name) is (g.cleared.planned.tasks name))

    not_pending : (t : Task) (held : Instance) (where' : List ℕ) → t.state ≡ task.Running held where'
        → t.state ≡ task.Pending → ⊥
    not_pending t held where' is other = cc

    settled-started : IsTaskClaimed → IsTaskAt (the_task new)
    settled-started c =
        let n = c.now_running in
        subst IsTaskAt (sym n.is)
        (⊎_elim
        (λ (fresh : (c.old.state ≡ task.Pending) × (n.new.state ≡ task.Running c.instance c.cell)
        × (n.new.name ≡ c.old.name)).
        subst (IsTaskSettled new after now name) (sym fresh.1)
        (held-ground rows new after now (job.Task name) c.instance c.cell
        ((ground rows before after now cs g).there c.cell c.instance.epoch) ∙
        (held-new rows before after now cs g) c.command (job.Task name) c.instance c.cell c.inside c.claims
        c.there))
        (λ (own : (n.new ≡ c.old) × (held : Instance) × (where' : List ℕ) × (c.old.state ≡ task.Running held where')
        × (is_same_instance c.instance held ≡ true)).
        subst (λ (t : Task). IsTaskSettled new after now name t.state) (sym own.0)
        (task-settled c.old c.was (not_pending c.old own.1 own.2 own.3)))
        n.how)

    pub task-done : IsTaskAt (the_task new)
    task-done =
        ⊎_elim settled-started
        (λ (other : (the_task new ≡ the_task rows) × ((c : Command) → Contains cs c → subject_in c ≢ OfTask name)).
        subst IsTaskAt (sym other.0)
        (elim (the_task rows) as (λ (r : Option Task). the_task rows ≡ r → IsTaskAt r) [
          | None ↦ λ is. tt
          | (Some t) ↦ λ is. task-settled t is (λ state. let p = g.places.tasks_placed name t is state in
              other.1 p.0 p.1 p.2)
        ] refl))
        task-fate

    pub task-names-still : (instance : Instance) → task_names (the_task rows) instance ≡ true
        → task_names (the_task new) instance ≡ true
    task-names-still instance named =
        ⊎_elim
        (λ (c : IsTaskClaimed).
        let old : is_holder (runner_of c.old.state) instance ≡ true =
        ap (λ (r : Option Task). task_names r instance) (sym c.was) ∙ named in
        ap (λ (r : Option Task). task_names r instance) c.now_running.is
        ∙ ⊎_elim
        (λ (fresh : (c.old.state ≡ task.Pending) × (c.now_running.new.state ≡ task.Running c.instance c.cell)
        × (c.now_running.new.name ≡ c.old.name)).
        let none : is_holder (runner_of c.old.state) instance ≡ false =
        ap (λ (s : TaskState). is_holder (runner_of s) instance) fresh.0 in
        absurd cc)
        (λ (own : (c.now_running.new ≡ c.old) × (held : Instance) × (where' : List ℕ)
        × (c.old.state ≡ task.Running held where') × (is_same_instance c.instance held ≡ true)).
        ap (λ (t : Task). is_holder (runner_of t.state) instance) own.0 ∙ old)
        c.now_running.how)
        (λ (other : (the_task new ≡ the_task rows) × ((c : Command) → Contains cs c → subject_in c ≢ OfTask name)).
        ap (λ (r : Option Task). task_names r instance) other.0 ∙ named)
        task-fate

    pub task-names-claimed : (c : Command) (instance : Instance) (cell : List ℕ) → Contains cs c
        → c.op ≡ op.StartTask name instance cell → task_names (the_task new) instance ≡ true
    task-names-claimed c instance cell inside claims =
        let r = task-claimed c instance cell inside claims in
        let n = r.2 in
        ap (λ (o : Option Task). task_names o instance) n.is
        ∙ ⊎_elim
        (λ (fresh : (r.0.state ≡ task.Pending) × (n.new.state ≡ task.Running instance cell) × (n.new.name ≡ r.0.name)).
        ap (λ (s : TaskState). is_holder (runner_of s) instance) fresh.1 ∙ instance_itself instance)
        (λ (own : (n.new ≡ r.0) × (held : Instance) × (where' : List ℕ) × (r.0.state ≡ task.Running held where')
        × (is_same_instance instance held ≡ true)).
        ap (λ (t : Task). is_holder (runner_of t.state) instance) own.0 ∙ ap
        (λ (s : TaskState). is_holder (runner_of s) instance) own.3 ∙ own.4)
        n.how
