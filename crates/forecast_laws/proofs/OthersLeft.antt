-- What a loss leaves of EVACUATING rows, of tasks, of cells and of desired rows.
use Rattle.std.proofs.Common.{◌≡◌, ◌≢◌, ℕ, Bool, true, false, cond, ◌||◌, not, nat_le, nat_lt, List, Option, Some, None, refl, sym, ap, subst, ◌∙◌, arith, ⊎_elim}
use Rattle.std.specs.Option.{option_and_then}
use Rattle.std.proofs.lemmas.Bool.Decides.{nat_tests}
use Rattle.bbs_model.specs.Runs.{state_after}
use Rattle.bbs_model.specs.Tables.{find_actual, find_cell, find_desired, find_task, task_name_of}
use Rattle.bbs_model.specs.Valid.{IsValid}
use Rattle.bbs_model.specs.Work as told
use Rattle.bbs_model.specs.declared.command.Command.{Command}
use Rattle.bbs_model.specs.declared.command.Op.{Op}
use Rattle.bbs_model.specs.declared.command.Op.TheVariants as op
use Rattle.bbs_model.specs.declared.rows.Rows.{Rows}
use Rattle.cell_records.specs.declared.answer.Answer.{Answer}
use Rattle.cell_records.specs.declared.cell_row.CellRow.{CellRow}
use Rattle.convergence.specs.Containers.{site_of, task_site_of}
use Rattle.convergence.specs.PlanLaws.{plan_on}
use Rattle.convergence.specs.Plans.{actual_plan, plan_of_answers, task_plan}
use Rattle.convergence.specs.Subjects.{OfCell, OfPlace, OfTask, subject_in, work_on}
use Rattle.converge_laws.specs.Accepted.{AreAccepted, IsOfRound}
use Rattle.converge_laws.specs.Converged.{IsKeptAside}
use Rattle.converge_laws.specs.Laws.{after_plan, after_work}
use Rattle.converge_laws.proofs.Public.{HasEnded, kept_after, plan_of_round, run-other, stays-cell, stays-evacuating, stays-task, task-step, work_of_round}
use Rattle.crash_backoff.specs.declared.moment.Moment.{Moment}
use Rattle.diego_names.proofs.Public.{IsKeyOrder-name_order}
use Rattle.diego_names.specs.Order.{name_order}
use Rattle.diego_names.specs.declared.instance.Instance.{Instance}
use Rattle.diego_names.specs.declared.key.Key.{Key}
use Rattle.event_laws.specs.Frame.{own_process}
use Rattle.lrp_records.specs.declared.actual.Actual.{Actual}
use Rattle.lrp_records.specs.declared.presence.Presence.TheVariants.{Ordinary, Evacuating}
use Rattle.lrp_records.specs.declared.state.LrpState.{LrpState}
use Rattle.lrp_records.specs.declared.state.LrpState.TheVariants as lrp
use Rattle.row_tables.proofs.Public.{key-find_row}
use Rattle.task_records.specs.declared.state.TaskState.{TaskState}
use Rattle.task_records.specs.declared.state.TaskState.TheVariants as task
use Rattle.task_records.specs.declared.task.Task.{Task}
use Rattle.what_if.specs.declared.site.Site.{Site}
use Rattle.forecast_laws.specs.Losses.{AreThoseThere, IsBehindALoss}
use Rattle.forecast_laws.proofs.Alike.{some_one}
use Rattle.forecast_laws.proofs.Ground.{not_retired, row_there}
use Rattle.forecast_laws.proofs.HeldStill.{actual_rests, evacuating_held, task_held, task_idle, task_rests}
use Rattle.forecast_laws.proofs.OrdinaryLeft.{state_lost}
use Rattle.forecast_laws.proofs.Untouched.{leaves-plan, leaves-work, takes-work, valid-work}

no_process : (o : Op) → IsOfRound o → (name : List ℕ) → own_process o ≢ Some name
no_process (op.Desire d) h name e = absurd h
no_process (op.Update process instances route port) h name e = absurd h
no_process (op.Undesire process) h name e = absurd h
no_process o h name e = cc

-- a round leaves what is desired
pub desired_stays : (rows : Rows) (got : List Answer) (now : Moment) → IsValid rows → (process : List ℕ)
    → find_desired (after_plan rows got now) process ≡ find_desired rows process
desired_stays rows got now valid process =
    let mid = after_work rows now in
    let stays : (r : Rows) (c : Command) → IsOfRound c.op → Unit {0} → find_desired (state_after r c) process ≡
    find_desired r process =
    λ r c h other. (kept_after r c).desired process (no_process c.op h process) in
    run-other (λ (r : Rows). find_desired r process) (λ (c : Command). Unit {0}) stays mid (plan_of_answers mid got now)
    (plan_of_round mid got now (valid-work rows got now valid)).ops (λ c inside. tt)
    ∙ run-other (λ (r : Rows). find_desired r process) (λ (c : Command). Unit {0}) stays rows (told.work rows now)
    (work_of_round rows now valid).ops (λ c inside. tt)

-- and the row of a cell that is there
pub cell_stays : (rows : Rows) (got : List Answer) (now : Moment) → IsValid rows → (cell : List ℕ) (epoch : ℕ)
    → told.is_there rows now cell epoch ≡ true → find_cell (after_plan rows got now) cell ≡ find_cell rows cell
cell_stays rows got now valid cell epoch there =
    let x = row_there rows now cell epoch there in
    let holds : nat_lt now.0 x.row.until ≡ true = x.present in
    let ends : nat_le x.row.until now.0 ≡ false = grind (arith, nat_tests) in
    let none : work_on rows now (OfCell cell) ≡ None =
    ap (option_and_then (λ (c : CellRow). told.cell_work c now)) x.found
    ∙ ap (λ (b : Bool). told.asked_if b (op.Vanish x.row.cell)) ends in
    let stays = λ (r : Rows) (c : Command) (h : IsOfRound c.op) (other : subject_in c ≢ OfCell cell).
    stays-cell r c h cell other in
    leaves-plan rows got now valid (λ (r : Rows). find_cell r cell) (OfCell cell) stays refl
    ∙ leaves-work rows got now valid (λ (r : Rows). find_cell r cell) (OfCell cell) stays none

idle_state : (rows : Rows) (now : Moment) (s : LrpState) → told.is_running s ≡ false → told.runs_in rows now s ≡ false
idle_state rows now lrp.Unclaimed e = refl
idle_state rows now (lrp.Claimed i c) e = refl
idle_state rows now (lrp.Running i c) e = absurd cc
idle_state rows now lrp.Crashed e = refl

idle_row : (rows : Rows) (now : Moment) (r : Option Actual) → told.runs r ≡ false → told.runs_there rows now r ≡ false
idle_row rows now None e = refl
idle_row rows now (Some a) e = idle_state rows now a.state e

module _ {site : Site} {lost : List (List ℕ)} {rows : Rows} {got stores : List Answer} {old now : Moment}
    (valid : IsValid rows) (those : AreThoseThere rows got now)
    (loss : IsBehindALoss site lost rows got stores old now) where
  -- an EVACUATING row whose container's cell is there stays
  pub evacuating_stays : (key : Key) (a : Actual) (instance : Instance) (cell : List ℕ)
      → find_actual rows key Evacuating ≡ Some a → site_of a.state ≡ Some (instance, cell)
      → told.is_there rows now cell instance.epoch ≡ true
      → find_actual (after_plan rows got now) key Evacuating ≡ Some a
  evacuating_stays key a instance cell is on there =
      let h : IsKeptAside rows stores old key (Some a) =
      subst (IsKeptAside rows stores old key) is (loss.cleared.planned.aside key) in
      let kept : told.is_retirable rows now key a ≡ false = not_retired rows lost old now loss.ended key a h.0 in
      let found = state_lost rows now false a.state (instance, cell) on (ap not there) in
      let idle = idle_row rows now (find_actual rows key Ordinary) h.2 in
      let unspent : told.is_spent rows now key a ≡ false =
      ap (λ (b : Bool). (b || told.is_lost rows now a.state) || told.runs_there rows now
      (find_actual rows key Ordinary)) kept
      ∙ ap (λ (b : Bool). b || told.runs_there rows now (find_actual rows key Ordinary)) found ∙ idle in
      let none : work_on rows now (OfPlace (key, Evacuating)) ≡ None =
      ap (told.evacuating_work rows now key) is
      ∙ ap (λ (b : Bool). cond b (told.drop_row_of key a.state) None) unspent in
      let stays = λ (r : Rows) (c : Command) (h : IsOfRound c.op) (other : subject_in c ≢ OfPlace (key, Evacuating)).
      stays-evacuating r c h key other in
      let mid : find_actual (after_work rows now) key Evacuating ≡ Some a =
      leaves-work rows got now valid (λ (r : Rows). find_actual r key Evacuating) (OfPlace (key, Evacuating)) stays
      none ∙ is in
      let rests : plan_on (after_work rows now) got (OfPlace (key, Evacuating)) ≡ None =
      ap (option_and_then (actual_plan got)) mid
      ∙ actual_rests those loss a instance cell on (evacuating_held those loss key a instance cell is on) there in
      leaves-plan rows got now valid (λ (r : Rows). find_actual r key Evacuating) (OfPlace (key, Evacuating)) stays
      rests ∙ mid

  module _ (name : List ℕ) where
    stays_here : (r : Rows) (c : Command) → IsOfRound c.op → subject_in c ≢ OfTask name
        → find_task (state_after r c) name ≡ find_task r name
    stays_here r c h other = stays-task r c h name other

    rests_there : (t : Task) (s : TaskState) (p : Instance × List ℕ) → task_site_of s ≡ Some p
        → told.asked_of_task rows now t s ≡ None → told.is_there rows now p.1 p.0.epoch ≡ true
    rests_there t task.Pending p on e = absurd cc
    rests_there t (task.Running i c) p on e =
        subst (λ (q : Instance × List ℕ). told.is_there rows now q.1 q.0.epoch ≡ true) (some_one (i, c) p on)
        (elim (told.is_there rows now c i.epoch) as
        (λ (b : Bool). told.asked_if (not b) (op.CancelTask t.name) ≡ None → b ≡ true)
        [ true ↦ λ f. refl | false ↦ λ f. absurd cc ] e)
    rests_there t (task.Completed failed) p on e = absurd cc
    rests_there t (task.Resolving failed) p on e = absurd cc

    -- a task of which nothing is asked stays
    pub task_kept : (t : Task) → find_task rows name ≡ Some t → told.task_work rows now t ≡ None
        → find_task (after_plan rows got now) name ≡ Some t
    task_kept t is none =
        let mid : find_task (after_work rows now) name ≡ Some t =
        leaves-work rows got now valid (λ (r : Rows). find_task r name) (OfTask name) stays_here
        (ap (option_and_then (told.task_work rows now)) is ∙ none) ∙ is in
        let idle : task_plan got t ≡ None =
        elim (task_site_of t.state) as (λ (o : Option (Instance × List ℕ)). task_site_of t.state ≡ o
        → task_plan got t ≡ None) [
          | None ↦ λ e. task_idle got t e
          | (Some p) ↦ λ e. task_rests those loss t p.0 p.1 e (task_held those loss name t p.0 p.1 is e)
              (rests_there t t.state p e none)
        ] refl in
        leaves-plan rows got now valid (λ (r : Rows). find_task r name) (OfTask name) stays_here
        (ap (option_and_then (task_plan got)) mid ∙ idle) ∙ mid

    -- so does a RUNNING one whose cell is there
    pub running_stays : (t : Task) (instance : Instance) (cell : List ℕ) → find_task rows name ≡ Some t
        → t.state ≡ task.Running instance cell → told.is_there rows now cell instance.epoch ≡ true
        → find_task (after_plan rows got now) name ≡ Some t
    running_stays t instance cell is state there =
        task_kept t is (ap (told.asked_of_task rows now t) state
        ∙ ap (λ (b : Bool). told.asked_if (not b) (op.CancelTask t.name)) there)

    -- and a PENDING one
    pub pending_stays : (t : Task) → find_task rows name ≡ Some t → t.state ≡ task.Pending
        → find_task (after_plan rows got now) name ≡ Some t
    pending_stays t is state =
        task_kept t is (ap (told.asked_of_task rows now t) state
        ∙ ap (λ (b : Bool). told.asked_if b (op.CancelTask t.name)) (loss.ended.pending name t is state))

    ended_not : (r : Option Task) (t : Task) → HasEnded now r → r ≡ Some t → t.state ≡ task.Pending → ⊥
    ended_not r t h e state =
        ⊎_elim
        (λ (none : r ≡ None). let bad : None ≡ Some t = sym none ∙ e in cc)
        (λ (x : (u : Task) × (r ≡ Some u) × (failed : Bool) × (u.state ≡ task.Completed failed) × (u.since ≡ now)).
        let one : x.0 ≡ t = some_one x.0 t (sym x.1 ∙ e) in
        let bad : task.Completed x.2 ≡ task.Pending = sym x.3 ∙ ap (λ (u : Task). u.state) one ∙ state in cc)
        h

    ended_idle : (r : Option Task) → HasEnded now r → option_and_then (task_plan got) r ≡ None
    ended_idle r h =
        ⊎_elim
        (λ (none : r ≡ None). ap (option_and_then (task_plan got)) none)
        (λ (x : (u : Task) × (r ≡ Some u) × (failed : Bool) × (u.state ≡ task.Completed failed) × (u.since ≡ now)).
        ap (option_and_then (task_plan got)) x.1 ∙ task_idle got x.0 (ap task_site_of x.3))
        h

    module _ (taken : AreAccepted rows (told.work rows now)) where
      -- a task of which something is asked has ended
      task_ended : (t : Task) (o : Op) → find_task rows name ≡ Some t → told.task_work rows now t ≡ Some o
          → HasEnded now (find_task (after_plan rows got now) name)
      task_ended t o is e =
          let mid : HasEnded now (find_task (after_work rows now) name) =
          takes-work rows got now valid (λ (r : Rows). find_task r name) (OfTask name) stays_here taken (HasEnded now) o
          (ap (option_and_then (told.task_work rows now)) is ∙ e)
          (λ before same h. task-step now before name rows t t.state o
          (key-find_row name_order task_name_of IsKeyOrder-name_order name t rows.tasks is) e h) in
          subst (HasEnded now) (sym (leaves-plan rows got now valid (λ (r : Rows). find_task r name)
          (OfTask name) stays_here
          (ended_idle (find_task (after_work rows now) name) mid))) mid

      none_stays : find_task rows name ≡ None → find_task (after_plan rows got now) name ≡ None
      none_stays is =
          let mid : find_task (after_work rows now) name ≡ None =
          leaves-work rows got now valid (λ (r : Rows). find_task r name) (OfTask name) stays_here
          (ap (option_and_then (told.task_work rows now)) is) ∙ is in
          leaves-plan rows got now valid (λ (r : Rows). find_task r name) (OfTask name) stays_here
          (ap (option_and_then (task_plan got)) mid) ∙ mid

      -- a task that is PENDING then was there
      pub pending_back : (t : Task) → find_task (after_plan rows got now) name ≡ Some t → t.state ≡ task.Pending
          → find_task rows name ≡ Some t
      pending_back t is state =
          elim (find_task rows name) as (λ (r : Option Task). find_task rows name ≡ r → r ≡ Some t) [
            | None ↦ λ e. let bad : None ≡ Some t = sym (none_stays e) ∙ is in absurd cc
            | (Some u) ↦ λ e.
                elim (told.task_work rows now u) as (λ (o : Option Op). told.task_work rows now u ≡ o
                → Some u ≡ Some t) [
                  | None ↦ λ none. sym (task_kept u e none) ∙ is
                  | (Some o) ↦ λ asked.
                      absurd (ended_not (find_task (after_plan rows got now) name) t (task_ended u o e asked) is state)
                ] refl
          ] refl
