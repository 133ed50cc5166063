-- Once all strays are stopped none is left, and no row lost its container.
use Rattle.std.proofs.Common.{◌≡◌, inl, inr, ⊎_elim, ℕ, Bool, true, false, ◌&&◌, ◌||◌, ◌==◌, not, filter, List, Option, Some, None, nat_eq, refl, ap, sym, ◌∙◌, subst}
use Rattle.std.specs.Cmp.Lexicographic.{pointwise}
use Rattle.std.specs.List.{Contains, flat_map}
use Rattle.std.specs.Option.{unwrap_or}
use Rattle.std.specs.Ordering.{nat_cmp}
use Rattle.cell_records.specs.declared.answer.Answer.{Answer}
use Rattle.cell_records.specs.declared.container.Container.{Container}
use Rattle.cell_records.specs.declared.job_name.JobName.{JobName}
use Rattle.cell_records.specs.declared.job_name.JobName.TheVariants as job
use Rattle.container_store.specs.Changes.{is_uncompleted}
use Rattle.container_store.specs.Store.{number_of}
use Rattle.crash_backoff.specs.declared.moment.Moment.{Moment}
use Rattle.diego_names.specs.declared.instance.Instance.{Instance}
use Rattle.diego_names.specs.declared.key.Key.{Key}
use Rattle.lrp_records.specs.States.{holder_of}
use Rattle.lrp_records.specs.declared.actual.Actual.{Actual}
use Rattle.lrp_records.specs.declared.presence.Presence.TheVariants.{Ordinary, Evacuating}
use Rattle.lrp_records.specs.declared.state.LrpState.{LrpState}
use Rattle.lrp_records.specs.declared.state.LrpState.TheVariants as lrp
use Rattle.task_records.specs.declared.state.TaskState.{TaskState}
use Rattle.task_records.specs.declared.state.TaskState.TheVariants as task
use Rattle.task_records.specs.declared.task.Task.{Task}
use Rattle.bbs_model.specs.Tables.{find_actual, find_task}
use Rattle.row_tables.specs.Table.{IsRising}
use Rattle.task_records.specs.States.{runner_of}
use Rattle.bbs_model.specs.Work.{is_there, wants}
use Rattle.bbs_model.specs.declared.rows.Rows.{Rows}
use Rattle.convergence.specs.Containers.{is_answer_of, is_container_of, is_named_for, is_named}
use Rattle.convergence.specs.Strays.{is_stray, strays_in, stray_order, strays}
use Rattle.convergence.proofs.Public.{find-passes, find-some, Contains-table, Contains-from_table, IsKeyOrder-stray_order, same_cell}
use Rattle.converge_laws.specs.Converged.{is_held, HasItsContainer, IsUnwantedKept, IsStateHeld, IsKeptAside}
use Rattle.converge_laws.specs.Stages.{HaveAnswered, IsSameCell, IsWithout, AreWithout, MayBePlaced, IsPlaceable, MayTaskBePlaced, IsTaskPlaceable, IsPlanned, NoStrays, IsCleared}
use Rattle.converge_laws.proofs.Held.{found-there, held-from, held-in, row-key}
use Rattle.converge_laws.proofs.Lists.{inside_map, from_map, inside_flat_map, from_flat_map, inside_filter, from_filter, zip_back, zip_find}
use Rattle.converge_laws.proofs.Naming.{looked_for, one_container, named-ordinary, named-evacuating, named-task, named-found}

-- a test of a cell and epoch answers alike for the same cell
pub alike : (cell : List ℕ) (epoch : ℕ) (x y : Answer) → IsSameCell x y
    → is_answer_of cell epoch y ≡ is_answer_of cell epoch x
alike cell epoch x y same =
    ap (λ (n : List ℕ). pointwise nat_eq n cell && y.epoch == epoch) same.cell ∙ ap
    (λ (e : ℕ). pointwise nat_eq x.cell cell && e == epoch) same.epoch

none_of : (runs' named : Bool) → (not runs' || not named) ≡ false → (runs' ≡ true) × (named ≡ true)
none_of true true e = (refl, refl)
none_of true false e = absurd cc
none_of false named e = absurd cc

module _ (rows : Rows) (got : List Answer) where
  -- a stray is a container of an answer
  pub stray-from : (cell : List ℕ) (instance : Instance) → Contains (strays rows got) (cell, instance)
      → (x : Answer) × Contains got x × (c : Container) × Contains x.containers c × (is_stray rows c ≡ true)
      × (x.cell ≡ cell) × (c.instance ≡ instance)
  stray-from cell instance inside =
      let all : Contains (flat_map (strays_in rows) got) (cell, instance) =
      Contains-from_table stray_order IsKeyOrder-stray_order (flat_map (strays_in rows) got)
      (cell, instance) inside in
      let f = from_flat_map (strays_in rows) got (cell, instance) all in
      let m = from_map (λ (c : Container). (f.0.cell, c.instance)) (filter (is_stray rows) f.0.containers)
      (cell, instance) f.2 in
      let p = from_filter (is_stray rows) f.0.containers m.0 m.1 in
      (f.0, f.1, m.0, p.0, p.1, ap (λ (q : List ℕ × Instance). q.0) m.2, ap (λ (q : List ℕ × Instance). q.1) m.2)

  pub stray-inside : (x : Answer) (c : Container) → Contains got x → Contains x.containers c → is_stray rows c ≡ true
      → Contains (strays rows got) (x.cell, c.instance)
  stray-inside x c in_x in_c is =
      Contains-table stray_order IsKeyOrder-stray_order (flat_map (strays_in rows) got) (x.cell, c.instance)
      (inside_flat_map (strays_in rows) got x (x.cell, c.instance) in_x
      (inside_map (λ (k : Container). (x.cell, k.instance)) (filter (is_stray rows) x.containers) c
      (inside_filter (is_stray rows) x.containers c in_c is)))

module _ (rows : Rows) (got before after : List Answer) (now : Moment) (heard : HaveAnswered rows got before now)
    (without : AreWithout (strays rows got) before after) where
  -- a container that is named and has not ended isn't stopped
  not_stopped : (x : Answer) (c : Container) → Contains before x → Contains x.containers c → is_stray rows c ≡ false
      → Contains (strays rows got) (x.cell, c.instance) → ⊥
  not_stopped x c in_x in_c fine inside =
      let s = stray-from rows got x.cell c.instance inside in
      let cells : s.0.cell ≡ x.cell = s.5 in
      let instances : s.2.instance ≡ c.instance = s.6 in
      let one : s.0 ≡ x = heard.differ s.0 x (heard.inside s.0 s.1) in_x cells in
      let here : Contains x.containers s.2 = subst (λ (y : Answer). Contains y.containers s.2) one s.3 in
      let same : s.2 ≡ c = one_container x (subst (λ (y : Answer). IsRising nat_cmp number_of y.containers) one
      (heard.rising s.0 s.1)) s.2 c here in_c instances in
      let stray : is_stray rows c ≡ true = ap (is_stray rows) (sym same) ∙ s.4 in
      cc

  fine-named : (c : Container) → is_uncompleted c.state ≡ true → is_named rows c ≡ true → is_stray rows c ≡ false
  fine-named c runs' named = ap (λ (b : Bool). not b || not (is_named rows c)) runs' ∙ ap (λ (b : Bool). not b) named

  -- what a named row holds is held still
  held-stays : (j : JobName) (instance : Instance) (cell : List ℕ) → is_named_for j rows instance ≡ true
      → is_held rows before now j instance cell ≡ true → is_held rows after now j instance cell ≡ true
  held-stays j instance cell named held =
      let h = held-in rows before now j instance cell held in
      let in_before = (find-passes (is_answer_of cell instance.epoch) before h.answer h.from).0 in
      let at = find-passes (is_container_of j instance) h.answer.containers h.container h.inside in
      let fine : is_stray rows h.container ≡ false = fine-named h.container h.runs
      (named-found rows j instance h.container named at.1) in
      let y = zip_find (IsWithout (strays rows got)) (is_answer_of cell instance.epoch)
      (λ a b r. alike cell instance.epoch a b r.same) before after h.answer without h.from in
      let in_y : Contains y.0.containers h.container = (y.2.left h.container).1
      (at.0, λ stopped. not_stopped h.answer h.container in_before at.0 fine stopped) in
      let found = find-some (is_container_of j instance) y.0.containers h.container in_y at.1 in
      let other = find-passes (is_container_of j instance) y.0.containers found.0 found.1 in
      let in_x : Contains h.answer.containers found.0 = ((y.2.left found.0).0 other.0).0 in
      let instances : found.0.instance ≡ h.container.instance =
      sym (looked_for j instance found.0 other.1).0 ∙ (looked_for j instance h.container at.1).0 in
      let f = found-there rows got before now heard cell instance.epoch h.there in
      let in_got = (find-passes (is_answer_of cell instance.epoch) got f.answer f.in_got).0 in
      let one : f.answer ≡ h.answer = ap (λ (o : Option Answer). unwrap_or o f.answer) (sym f.in_stores ∙ h.from) in
      let rising = subst (λ (x : Answer). IsRising nat_cmp number_of x.containers) one (heard.rising f.answer in_got) in
      let same : found.0 ≡ h.container = one_container h.answer rising found.0 h.container in_x at.0 instances in
      held-from rows after now j instance cell y.0 found.0 h.there y.1 found.1
      (ap (λ (k : Container). is_uncompleted k.state) same ∙ h.runs)

  state-stays : (key : Key) (a : Actual) (s : LrpState) → find_actual rows key Ordinary ≡ Some a → a.state ≡ s
      → a.key ≡ key → MayBePlaced rows before now a s → MayBePlaced rows after now a s
  state-stays key a lrp.Unclaimed is state place h = tt
  state-stays key a (lrp.Claimed instance cell) is state place h =
      subst (λ (k : Key). is_held rows after now (job.Lrp k) instance cell ≡ true) (sym place)
      (held-stays (job.Lrp key) instance cell (named-ordinary rows key a instance is (ap holder_of state))
      (subst (λ (k : Key). is_held rows before now (job.Lrp k) instance cell ≡ true) place h))
  state-stays key a (lrp.Running instance cell) is state place h =
      subst (λ (k : Key). is_held rows after now (job.Lrp k) instance cell ≡ true) (sym place)
      (held-stays (job.Lrp key) instance cell (named-ordinary rows key a instance is (ap holder_of state))
      (subst (λ (k : Key). is_held rows before now (job.Lrp k) instance cell ≡ true) place h))
  state-stays key a lrp.Crashed is state place h = h

  container-stays : (key : Key) (a : Actual) (s : LrpState) → find_actual rows key Ordinary ≡ Some a → a.state ≡ s
      → a.key ≡ key → HasItsContainer rows before now a s → HasItsContainer rows after now a s
  container-stays key a lrp.Unclaimed is state place h = tt
  container-stays key a (lrp.Claimed instance cell) is state place h =
      state-stays key a (lrp.Claimed instance cell) is state place h
  container-stays key a (lrp.Running instance cell) is state place h =
      state-stays key a (lrp.Running instance cell) is state place h
  container-stays key a lrp.Crashed is state place h = tt

  aside-stays : (key : Key) (a : Actual) (s : LrpState) → find_actual rows key Evacuating ≡ Some a → a.state ≡ s
      → IsStateHeld rows before now key s → IsStateHeld rows after now key s
  aside-stays key a lrp.Unclaimed is state h = h
  aside-stays key a (lrp.Claimed instance cell) is state h =
      held-stays (job.Lrp key) instance cell (named-evacuating rows key a instance is (ap holder_of state)) h
  aside-stays key a (lrp.Running instance cell) is state h =
      held-stays (job.Lrp key) instance cell (named-evacuating rows key a instance is (ap holder_of state)) h
  aside-stays key a lrp.Crashed is state h = h

  task-stays : (name : List ℕ) (t : Task) (s : TaskState) → find_task rows name ≡ Some t → t.state ≡ s
      → MayTaskBePlaced rows before now name s → MayTaskBePlaced rows after now name s
  task-stays name t task.Pending is state h = tt
  task-stays name t (task.Running instance cell) is state h =
      held-stays (job.Task name) instance cell (named-task rows name t instance is (ap runner_of state)) h
  task-stays name t (task.Completed failed) is state h = tt
  task-stays name t (task.Resolving failed) is state h = tt

  -- no cell that is there keeps a stray
  no_strays : NoStrays rows after now
  no_strays y c in_y there in_c =
      let x = zip_back (IsWithout (strays rows got)) before after y without in_y in
      let left = (x.2.left c).0 in_c in
      let here : is_there rows now x.0.cell x.0.epoch ≡ true =
      ap (λ (n : List ℕ). is_there rows now n x.0.epoch) (sym x.2.same.cell) ∙ ap
      (λ (e : ℕ). is_there rows now y.cell e) (sym x.2.same.epoch) ∙ there in
      let f = found-there rows got before now heard x.0.cell x.0.epoch here in
      let in_got = find-passes (is_answer_of x.0.cell x.0.epoch) got f.answer f.in_got in
      let cells : f.answer.cell ≡ x.0.cell = ap (λ (p : List ℕ × ℕ). p.0)
      (same_cell f.answer (x.0.cell, x.0.epoch) in_got.1) in
      let one : f.answer ≡ x.0 = heard.differ f.answer x.0 (heard.inside f.answer in_got.0) x.1 cells in
      let inside : Contains got x.0 = subst (Contains got) one in_got.0 in
      none_of (is_uncompleted c.state) (is_named rows c)
      (elim (is_stray rows c) as (λ (b : Bool). is_stray rows c ≡ b → b ≡ false) [
        | true ↦ λ e. absurd (left.1 (stray-inside rows got x.0 c inside left.0 e))
        | false ↦ λ e. refl
      ] refl)

  module _ (planned : IsPlanned rows before now) where
    placeable-stays : (key : Key) (r : Option Actual) → find_actual rows key Ordinary ≡ r
        → IsPlaceable rows before now key r → IsPlaceable rows after now key r
    placeable-stays key None is h = h
    placeable-stays key (Some a) is h =
        let place : a.key ≡ key = row-key rows key Ordinary a is in
        ⊎_elim
        (λ (wanted : (wants rows key ≡ true) × MayBePlaced rows before now a a.state).
        inl (wanted.0, state-stays key a a.state is refl place wanted.1))
        (λ (stale : IsUnwantedKept rows before now key a). inr
        (stale.0, stale.1, container-stays key a a.state is refl place stale.2))
        h

    kept-stays : (key : Key) (r : Option Actual) → find_actual rows key Evacuating ≡ r
        → IsKeptAside rows before now key r → IsKeptAside rows after now key r
    kept-stays key None is h = h
    kept-stays key (Some a) is h = (h.0, aside-stays key a a.state is refl h.1, h.2)

    task_placeable-stays : (name : List ℕ) (r : Option Task) → find_task rows name ≡ r
        → IsTaskPlaceable rows before now name r → IsTaskPlaceable rows after now name r
    task_placeable-stays name None is h = h
    task_placeable-stays name (Some t) is h = task-stays name t t.state is refl h

    pub stops-leave_none : IsCleared rows after now
    stops-leave_none = record {
      planned = record {
        ordinary = λ key. placeable-stays key (find_actual rows key Ordinary) refl (planned.ordinary key);
        aside = λ key. kept-stays key (find_actual rows key Evacuating) refl (planned.aside key);
        suspected = planned.suspected;
        tasks = λ name. task_placeable-stays name (find_task rows name) refl (planned.tasks name);
      };
      clear = no_strays;
    }
