-- A container that was held before a loss is kept still if its cell is there, and a plan asks nothing of its row.
use Rattle.std.proofs.Common.{◌≡◌, ℕ, Bool, true, cond, List, Option, Some, None, refl, sym, ap, subst, ◌∙◌, ⊎_elim}
use Rattle.std.specs.Option.{option_and_then, option_map}
use Rattle.bbs_model.specs.Tables.{find_actual, find_task, task_name_of}
use Rattle.bbs_model.specs.Work.{is_there, wants}
use Rattle.bbs_model.specs.declared.command.Op.TheVariants as op
use Rattle.bbs_model.specs.declared.rows.Rows.{Rows}
use Rattle.cell_records.specs.declared.answer.Answer.{Answer}
use Rattle.cell_records.specs.declared.container.Container.{Container}
use Rattle.cell_records.specs.declared.container_state.ContainerState.{ContainerState}
use Rattle.cell_records.specs.declared.container_state.ContainerState.TheVariants as box
use Rattle.cell_records.specs.declared.job_name.JobName.{JobName}
use Rattle.cell_records.specs.declared.job_name.JobName.TheVariants as job
use Rattle.container_store.specs.Changes.{is_uncompleted}
use Rattle.convergence.specs.Containers.{answer_from, container_in, site_of, task_site_of}
use Rattle.convergence.specs.Plans.{actual_plan, outcome_plan, row_plan, task_plan, task_row_plan, told_of}
use Rattle.converge_laws.specs.Converged.{HasItsContainer, IsKeptAside, IsStateHeld, IsUnwantedKept, is_held}
use Rattle.converge_laws.specs.Stages.{HaveAnswered, IsPlaceable, IsTaskPlaceable, MayBePlaced, MayTaskBePlaced}
use Rattle.converge_laws.proofs.Public.{found-there, held-in}
use Rattle.crash_backoff.specs.declared.moment.Moment.{Moment}
use Rattle.diego_names.proofs.Public.{IsKeyOrder-name_order}
use Rattle.diego_names.specs.Order.{name_order}
use Rattle.diego_names.specs.declared.instance.Instance.{Instance}
use Rattle.diego_names.specs.declared.key.Key.{Key}
use Rattle.lrp_records.proofs.Public.{IsKeyOrder-place_order}
use Rattle.lrp_records.specs.Place.{place_of, place_order}
use Rattle.lrp_records.specs.declared.actual.Actual.{Actual}
use Rattle.lrp_records.specs.declared.presence.Presence.{Presence}
use Rattle.lrp_records.specs.declared.presence.Presence.TheVariants.{Ordinary, Evacuating, Suspect}
use Rattle.lrp_records.specs.declared.state.LrpState.{LrpState}
use Rattle.lrp_records.specs.declared.state.LrpState.TheVariants as lrp
use Rattle.row_tables.proofs.Public.{key-find_row}
use Rattle.task_records.specs.declared.state.TaskState.{TaskState}
use Rattle.task_records.specs.declared.state.TaskState.TheVariants as task
use Rattle.task_records.specs.declared.task.Task.{Task}
use Rattle.what_if.specs.declared.site.Site.{Site}
use Rattle.forecast_laws.specs.Losses.{AreThoseThere, IsBehindALoss}
use Rattle.forecast_laws.proofs.Alike.{some_one}

-- what a cell that answered keeps of a container that has not ended
pub record IsKept (got : List Answer) (j : JobName) (instance : Instance) (cell : List ℕ) : Type 0 where
  pub answer : Answer
  pub container : Container
  pub in_got : answer_from got cell instance.epoch ≡ Some answer
  pub inside : container_in j instance answer ≡ Some container
  pub runs : is_uncompleted container.state ≡ true

-- a row of a container that runs is asked for nothing
row_rests : (p : Presence) (key : Key) (instance : Instance) (c : Container) → is_uncompleted c.state ≡ true
    → row_plan p key instance (Some c) ≡ None
row_rests Ordinary key instance c e = ap (λ (b : Bool). cond b None (Some (op.Crash key instance))) e
row_rests Evacuating key instance c e = ap (λ (b : Bool). cond b None (Some (op.DropEvacuating key instance))) e
row_rests Suspect key instance c e = ap (λ (b : Bool). cond b None (Some (op.DropSuspect key instance))) e

outcome_rests : (name : List ℕ) (instance : Instance) (s : ContainerState) → is_uncompleted s ≡ true
    → outcome_plan name instance s ≡ None
outcome_rests name instance box.Reserved e = refl
outcome_rests name instance box.Running e = refl
outcome_rests name instance (box.Completed failed) e = absurd cc

-- so is one without a container
pub actual_idle : (got : List Answer) (a : Actual) → site_of a.state ≡ None → actual_plan got a ≡ None
actual_idle got a none =
    ap (option_and_then (λ (s : Instance × List ℕ).
    option_and_then (row_plan a.presence a.key s.0) (told_of got (job.Lrp a.key) s))) none

pub task_idle : (got : List Answer) (t : Task) → task_site_of t.state ≡ None → task_plan got t ≡ None
task_idle got t none =
    ap (option_and_then (λ (s : Instance × List ℕ).
    option_and_then (task_row_plan t.name s.0) (told_of got (job.Task t.name) s))) none

module _ (rows : Rows) (stores : List Answer) (at : Moment) (instance : Instance) (cell : List ℕ) where
  abbrev Holds : JobName → Instance × List ℕ → Type 0
  Holds j p = is_held rows stores at j p.0 p.1 ≡ true

  placed_has : (a : Actual) (s : LrpState) → MayBePlaced rows stores at a s → HasItsContainer rows stores at a s
  placed_has a lrp.Unclaimed h = tt
  placed_has a (lrp.Claimed i c) h = h
  placed_has a (lrp.Running i c) h = h
  placed_has a lrp.Crashed h = tt

  container_held : (a : Actual) (s : LrpState) → site_of s ≡ Some (instance, cell) → HasItsContainer rows stores at a s
      → is_held rows stores at (job.Lrp a.key) instance cell ≡ true
  container_held a lrp.Unclaimed on h = absurd cc
  container_held a (lrp.Claimed i c) on h = subst (Holds (job.Lrp a.key)) (some_one (i, c) (instance, cell) on) h
  container_held a (lrp.Running i c) on h = subst (Holds (job.Lrp a.key)) (some_one (i, c) (instance, cell) on) h
  container_held a lrp.Crashed on h = absurd cc

  state_held : (key : Key) (s : LrpState) → site_of s ≡ Some (instance, cell) → IsStateHeld rows stores at key s
      → is_held rows stores at (job.Lrp key) instance cell ≡ true
  state_held key lrp.Unclaimed on h = absurd h
  state_held key (lrp.Claimed i c) on h = subst (Holds (job.Lrp key)) (some_one (i, c) (instance, cell) on) h
  state_held key (lrp.Running i c) on h = subst (Holds (job.Lrp key)) (some_one (i, c) (instance, cell) on) h
  state_held key lrp.Crashed on h = absurd h

  running_held : (name : List ℕ) (s : TaskState) → task_site_of s ≡ Some (instance, cell)
      → MayTaskBePlaced rows stores at name s → is_held rows stores at (job.Task name) instance cell ≡ true
  running_held name task.Pending on h = absurd cc
  running_held name (task.Running i c) on h = subst (Holds (job.Task name)) (some_one (i, c) (instance, cell) on) h
  running_held name (task.Completed failed) on h = absurd cc
  running_held name (task.Resolving failed) on h = absurd cc

  pub placeable_held : (key : Key) (a : Actual) → site_of a.state ≡ Some (instance, cell)
      → IsPlaceable rows stores at key (Some a) → is_held rows stores at (job.Lrp a.key) instance cell ≡ true
  placeable_held key a on h =
      ⊎_elim
      (λ (w : (wants rows key ≡ true) × MayBePlaced rows stores at a a.state).
      container_held a a.state on (placed_has a a.state w.1))
      (λ (u : IsUnwantedKept rows stores at key a). container_held a a.state on u.2)
      h

module _ {site : Site} {lost : List (List ℕ)} {rows : Rows} {got stores : List Answer} {old now : Moment}
    (those : AreThoseThere rows got now) (loss : IsBehindALoss site lost rows got stores old now) where
  pub heard : HaveAnswered rows got stores now
  heard = record {
    inside = loss.answers.still;
    differ = loss.answers.differ;
    there = those.all;
    rising = those.rising;
  }

  pub kept_still : (j : JobName) (instance : Instance) (cell : List ℕ) → is_held rows stores old j instance cell ≡ true
      → is_there rows now cell instance.epoch ≡ true → IsKept got j instance cell
  kept_still j instance cell held there =
      let h = held-in rows stores old j instance cell held in
      let f = found-there rows got stores now heard cell instance.epoch there in
      let one : f.answer ≡ h.answer = some_one f.answer h.answer (sym f.in_stores ∙ h.from) in
      record {
        answer = f.answer;
        container = h.container;
        in_got = f.in_got;
        inside = ap (container_in j instance) one ∙ h.inside;
        runs = h.runs;
      }

  pub actual_rests : (a : Actual) (instance : Instance) (cell : List ℕ) → site_of a.state ≡ Some (instance, cell)
      → is_held rows stores old (job.Lrp a.key) instance cell ≡ true → is_there rows now cell instance.epoch ≡ true
      → actual_plan got a ≡ None
  actual_rests a instance cell on held there =
      let k = kept_still (job.Lrp a.key) instance cell held there in
      ap (option_and_then (λ (s : Instance × List ℕ).
      option_and_then (row_plan a.presence a.key s.0) (told_of got (job.Lrp a.key) s))) on
      ∙ ap (λ (o : Option Answer). option_and_then (row_plan a.presence a.key instance)
      (option_map (container_in (job.Lrp a.key) instance) o)) k.in_got
      ∙ ap (row_plan a.presence a.key instance) k.inside
      ∙ row_rests a.presence a.key instance k.container k.runs

  pub task_rests : (t : Task) (instance : Instance) (cell : List ℕ) → task_site_of t.state ≡ Some (instance, cell)
      → is_held rows stores old (job.Task t.name) instance cell ≡ true → is_there rows now cell instance.epoch ≡ true
      → task_plan got t ≡ None
  task_rests t instance cell on held there =
      let k = kept_still (job.Task t.name) instance cell held there in
      ap (option_and_then (λ (s : Instance × List ℕ).
      option_and_then (task_row_plan t.name s.0) (told_of got (job.Task t.name) s))) on
      ∙ ap (λ (o : Option Answer). option_and_then (task_row_plan t.name instance)
      (option_map (container_in (job.Task t.name) instance) o)) k.in_got
      ∙ ap (task_row_plan t.name instance) k.inside
      ∙ outcome_rests t.name instance k.container.state k.runs

  pub ordinary_held : (key : Key) (a : Actual) (instance : Instance) (cell : List ℕ)
      → find_actual rows key Ordinary ≡ Some a → site_of a.state ≡ Some (instance, cell)
      → is_held rows stores old (job.Lrp a.key) instance cell ≡ true
  ordinary_held key a instance cell is on =
      placeable_held rows stores old instance cell key a on
      (subst (IsPlaceable rows stores old key) is (loss.cleared.planned.ordinary key))

  pub evacuating_held : (key : Key) (a : Actual) (instance : Instance) (cell : List ℕ)
      → find_actual rows key Evacuating ≡ Some a → site_of a.state ≡ Some (instance, cell)
      → is_held rows stores old (job.Lrp a.key) instance cell ≡ true
  evacuating_held key a instance cell is on =
      let h : IsKeptAside rows stores old key (Some a) =
      subst (IsKeptAside rows stores old key) is (loss.cleared.planned.aside key) in
      let same : a.key ≡ key = ap (λ (p : Key × Presence). p.0)
      (key-find_row place_order place_of IsKeyOrder-place_order (key, Evacuating) a rows.actual is) in
      subst (λ (k : Key). is_held rows stores old (job.Lrp k) instance cell ≡ true) (sym same)
      (state_held rows stores old instance cell key a.state on h.1)

  pub task_held : (name : List ℕ) (t : Task) (instance : Instance) (cell : List ℕ) → find_task rows name ≡ Some t
      → task_site_of t.state ≡ Some (instance, cell) → is_held rows stores old (job.Task t.name) instance cell ≡ true
  task_held name t instance cell is on =
      let h : IsTaskPlaceable rows stores old name (Some t) =
      subst (IsTaskPlaceable rows stores old name) is (loss.cleared.planned.tasks name) in
      let same : t.name ≡ name = key-find_row name_order task_name_of IsKeyOrder-name_order name t rows.tasks is in
      subst (λ (n : List ℕ). is_held rows stores old (job.Task n) instance cell ≡ true) (sym same)
      (running_held rows stores old instance cell name t.state on h)
