-- What waits is among the jobs, and each job that waits is claimed.
use Rattle.std.proofs.Common.{◌≡◌, ℕ, Bool, true, cond, List, [], map, filter_map, Option, Some, None, refl, sym, ap, subst, ◌∙◌, arith}
use Rattle.std.specs.List.{Contains, flat_map}
use Rattle.std.specs.Option.{option_map, option_and_then}
use Rattle.std.proofs.lemmas.List.Elements.{Contains-append_left, Contains-append_right}
use Rattle.auctioneer.specs.Asked.{AreJobs}
use Rattle.auctioneer.specs.Laws.{job_in}
use Rattle.auctioneer.specs.declared.placement.Placement.{Placement}
use Rattle.auctioneer.specs.declared.placement.Placement.TheVariants.{On, NoRoom}
use Rattle.cell_records.specs.declared.answer.Answer.{Answer}
use Rattle.cell_records.specs.declared.job.Job.{Job}
use Rattle.cell_records.specs.declared.job_name.JobName.{JobName}
use Rattle.cell_records.specs.declared.job_name.JobName.TheVariants as name
use Rattle.diego_names.specs.Order.{name_order}
use Rattle.diego_names.specs.declared.key.Key.{Key}
use Rattle.lrp_records.proofs.Public.{IsKeyOrder-place_order}
use Rattle.lrp_records.specs.Place.{place_of, place_order}
use Rattle.lrp_records.specs.declared.actual.Actual.{Actual}
use Rattle.lrp_records.specs.declared.desired.Desired.{Desired}
use Rattle.lrp_records.specs.declared.presence.Presence.{Presence}
use Rattle.lrp_records.specs.declared.presence.Presence.TheVariants.{Ordinary}
use Rattle.lrp_records.specs.declared.state.LrpState.{LrpState}
use Rattle.lrp_records.specs.declared.state.LrpState.TheVariants as lrp
use Rattle.row_tables.proofs.Public.{Contains-find_row, key-find_row}
use Rattle.task_records.specs.declared.state.TaskState.TheVariants as task
use Rattle.task_records.specs.declared.task.Task.{Task}
use Rattle.bbs_model.specs.Lrps.{is_wanted}
use Rattle.bbs_model.specs.Tables.{find_desired, find_actual, find_task, task_name_of}
use Rattle.bbs_model.specs.Work.{wants}
use Rattle.bbs_model.specs.declared.command.Command.{Command}
use Rattle.bbs_model.specs.declared.rows.Rows.{Rows}
use Rattle.convergence.specs.Subjects.{subject_in}
use Rattle.converge_laws.proofs.Public.{inside_map, from_map, inside_flat_map, subject_for}
use Rattle.converge_round.specs.Jobs.{job_of_place, instance_job, waiting_job, row_job, job_of_task, pending_job, task_job, jobs, named_job}
use Rattle.converge_round.specs.Places.{placements, jobs_on, without_room, unplaced}
use Rattle.round_theorem.proofs.ClaimsMade.{about_job}
use Rattle.round_theorem.proofs.JobsPlaced.{placed-each, placed-there}
use Rattle.round_theorem.proofs.Lists.{kept_inside}
use Rattle.round_theorem.proofs.PlacesTaken.{goes_there, named_so}

-- a job that waits under its name
pub record IsWaiting (rows : Rows) (n : JobName) : Type 0 where
  pub job : Job
  pub inside : Contains (jobs rows) job
  pub named : named_job rows n ≡ Some job

wanted_job : (key : Key) (o : Option Desired) → is_wanted o key.index ≡ true
    → (j : Job) × (option_and_then (job_of_place key) o ≡ Some j)
wanted_job key None e = absurd cc
wanted_job key (Some d) e =
    let j : Job = record { job = name.Lrp key; memory = d.memory; disk = d.disk; tag = d.tag } in
    (j, ap (λ (b : Bool). cond b (Some j) None) e)

-- a wanted row that is UNCLAIMED waits
pub row-waits : (rows : Rows) (key : Key) (a : Actual) → wants rows key ≡ true → find_actual rows key Ordinary ≡ Some a
    → a.state ≡ lrp.Unclaimed → IsWaiting rows (name.Lrp key)
row-waits rows key a wanted is state =
    let j = wanted_job key (find_desired rows key.process) wanted in
    let place : place_of a ≡ (key, Ordinary) = key-find_row place_order place_of IsKeyOrder-place_order
    (key, Ordinary) a rows.actual is in
    let keys : a.key ≡ key = ap (λ (p : Key × Presence). p.0) place in
    let kinds : a.presence ≡ Ordinary = ap (λ (p : Key × Presence). p.1) place in
    let waits : row_job rows a ≡ Some j.0 =
    ap (λ (s : LrpState). waiting_job rows a.key a.presence s) state ∙ ap
    (λ (p : Presence). waiting_job rows a.key p lrp.Unclaimed) kinds ∙ ap
    (λ (k : Key). instance_job rows k) keys ∙ j.1 in
    record {
      job = j.0;
      inside = Contains-append_left (filter_map (row_job rows) rows.actual) (filter_map task_job rows.tasks) j.0
          (kept_inside (row_job rows) rows.actual a j.0 (Contains-find_row place_order place_of
          (key, Ordinary) a rows.actual is) waits);
      named = j.1;
    }

-- so does a task that is PENDING
pub task-waits : (rows : Rows) (n : List ℕ) (t : Task) → find_task rows n ≡ Some t → t.state ≡ task.Pending
    → IsWaiting rows (name.Task n)
task-waits rows n t is state = record {
  job = job_of_task t;
  inside = Contains-append_right (filter_map (row_job rows) rows.actual) (filter_map task_job rows.tasks)
      (job_of_task t)
      (kept_inside task_job rows.tasks t (job_of_task t) (Contains-find_row name_order task_name_of n t rows.tasks is)
      (ap (pending_job t) state));
  named = ap (option_map job_of_task) is;
}

module _ (rows : Rows) (roomy : List Answer) (cs : List Command) (differ : AreJobs (jobs rows))
    (all : unplaced (placements rows roomy) ≡ [])
    (subjects : map subject_in cs ≡ flat_map (λ (x : Answer).
    map about_job (jobs_on rows (placements rows roomy) x.cell)) roomy) where
  by_placement : (n : JobName) (j : Job) → named_job rows n ≡ Some j → (p : Placement)
      → Contains (placements rows roomy) p → job_in p ≡ n → (c : Command) × Contains cs c
      × (subject_in c ≡ subject_for n)
  by_placement n j named (On m cell) inside is =
      let x = placed-there roomy (jobs rows) differ m cell inside in
      let here : Contains (placements rows roomy) (On n x.0.cell) =
      subst (λ (p : Placement). Contains (placements rows roomy) p) (λ i. On (is i) (sym x.2 i)) inside in
      let goes = goes_there rows (placements rows roomy) x.0.cell n j here named in
      let about : Contains (flat_map (λ (y : Answer). map about_job (jobs_on rows (placements rows roomy) y.cell))
      roomy) (about_job j) =
      inside_flat_map (λ (y : Answer). map about_job (jobs_on rows (placements rows roomy) y.cell)) roomy x.0
      (about_job j) x.1
      (inside_map about_job (jobs_on rows (placements rows roomy) x.0.cell) j goes) in
      let c = from_map subject_in cs (about_job j) (subst (λ ss. Contains ss (about_job j)) (sym subjects) about) in
      (c.0, c.1, c.2 ∙ ap subject_for (named_so rows n j named))
  by_placement n j named (NoRoom m) inside is =
      let left : Contains (unplaced (placements rows roomy)) m =
      kept_inside without_room (placements rows roomy) (NoRoom m) m inside refl in
      let none : Contains [] m = subst (λ ms. Contains ms m) all left in
      absurd (omega (arith, none.1))

  -- where none is left without a place, what waits is claimed
  pub waiting-claimed : (n : JobName) → IsWaiting rows n
      → (c : Command) × Contains cs c × (subject_in c ≡ subject_for n)
  waiting-claimed n w =
      let p = placed-each roomy (jobs rows) differ w.job w.inside in
      by_placement n w.job w.named p.0 p.1 (p.2 ∙ named_so rows n w.job w.named)
