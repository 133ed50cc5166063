-- Claims and notes are refused for nothing but want of room, while what waits is as the auction read it.
use Rattle.std.proofs.Common.{◌≡◌, ℕ, Bool, true, false, cond, not, ◌&&◌, ◌==◌, List, map, filter_map, Option, Some, None, refl, sym, ap, subst, ◌∙◌, ⊎_elim}
use Rattle.std.specs.List.{Contains}
use Rattle.std.specs.Option.{option_map_or, option_and_then}
use Rattle.std.proofs.lemmas.List.Elements.{Contains-append_cases}
use Rattle.auctioneer.specs.Asked.{AreJobs}
use Rattle.auctioneer.specs.Laws.{job_in}
use Rattle.cell_records.specs.Presence.{is_present}
use Rattle.cell_records.specs.declared.answer.Answer.{Answer}
use Rattle.cell_records.specs.declared.cell_row.CellRow.{CellRow}
use Rattle.cell_records.specs.declared.job.Job.{Job}
use Rattle.cell_records.specs.declared.job_name.JobName.{JobName}
use Rattle.cell_records.specs.declared.job_name.JobName.TheVariants as name
use Rattle.cell_rep.specs.Acts.{claim_op}
use Rattle.crash_backoff.specs.declared.moment.Moment.{Moment}
use Rattle.diego_names.proofs.Public.{IsKeyOrder-name_order}
use Rattle.diego_names.specs.Order.{name_order}
use Rattle.diego_names.specs.declared.instance.Instance.{Instance}
use Rattle.diego_names.specs.declared.key.Key.{Key}
use Rattle.lrp_records.proofs.Public.{IsKeyOrder-place_order}
use Rattle.lrp_records.specs.Moves.{lrp_move, from_state}
use Rattle.lrp_records.specs.Place.{place_of, place_order}
use Rattle.lrp_records.specs.declared.actual.Actual.{Actual}
use Rattle.lrp_records.specs.declared.lrp_move.LrpMove.TheVariants as move
use Rattle.lrp_records.specs.declared.move_end.MoveEnd.TheVariants as end
use Rattle.lrp_records.specs.declared.presence.Presence.{Presence}
use Rattle.lrp_records.specs.declared.presence.Presence.TheVariants.{Ordinary, Evacuating, Suspect}
use Rattle.lrp_records.specs.declared.state.LrpState.{LrpState}
use Rattle.lrp_records.specs.declared.state.LrpState.TheVariants as lrp
use Rattle.row_tables.proofs.Public.{find_row-Contains, key-find_row}
use Rattle.task_records.specs.Moves.{task_move, task_from_state}
use Rattle.task_records.specs.declared.move_kind.TaskMove.TheVariants as task_kind
use Rattle.task_records.specs.declared.state.TaskState.{TaskState}
use Rattle.task_records.specs.declared.state.TaskState.TheVariants as task
use Rattle.task_records.specs.declared.task.Task.{Task}
use Rattle.bbs_model.specs.Attempts.{if_known, if_joined}
use Rattle.bbs_model.specs.Lrps.{moved_to}
use Rattle.bbs_model.specs.Step.{attempt_of}
use Rattle.bbs_model.specs.Tables.{find_actual, find_cell, find_task, task_name_of}
use Rattle.bbs_model.specs.Tasks.{task_moved_to}
use Rattle.bbs_model.specs.Valid.{IsValid}
use Rattle.bbs_model.specs.Work.{at, is_there}
use Rattle.bbs_model.specs.declared.attempt.Attempt.{Attempt}
use Rattle.bbs_model.specs.declared.attempt.Attempt.TheVariants.{Refuse}
use Rattle.bbs_model.specs.declared.command.Command.{Command}
use Rattle.bbs_model.specs.declared.command.Op.TheVariants as op
use Rattle.bbs_model.specs.declared.rows.Rows.{Rows}
use Rattle.bbs_model.specs.declared.verdict.BoardRefusal.TheVariants as why
use Rattle.convergence.specs.Subjects.{ordinary_of}
use Rattle.converge_laws.proofs.Public.{subject_for}
use Rattle.converge_round.specs.Jobs.{waiting_job, row_job, pending_job, task_job, jobs}
use Rattle.converge_round.specs.Places.{placements, fail_if, fail_of}
use Rattle.converge_round.proofs.Public.{from_kept}
use Rattle.round_theorem.proofs.FairMoves.{IsFair, fair_known}
use Rattle.round_theorem.proofs.FairTables.{IsAsBefore}
use Rattle.round_theorem.proofs.JobsPlaced.{placed-of}
use Rattle.round_theorem.proofs.PlacesTaken.{named_so}

-- the row or the task of that name waits for a place
abbrev pub IsRowWaiting : Rows → JobName → Type 0
IsRowWaiting rows (name.Lrp key) = (a : Actual) × (find_actual rows key Ordinary ≡ Some a) × (a.state ≡ lrp.Unclaimed)
IsRowWaiting rows (name.Task n) = (t : Task) × (find_task rows n ≡ Some t) × (t.state ≡ task.Pending)

row_waits : (rows : Rows) (key : Key) (p : Presence) (s : LrpState) (j : Job) → waiting_job rows key p s ≡ Some j
    → (p ≡ Ordinary) × (s ≡ lrp.Unclaimed) × (j.job ≡ name.Lrp key)
row_waits rows key Ordinary lrp.Unclaimed j e = (refl, refl, named_so rows (name.Lrp key) j e)
row_waits rows key Ordinary (lrp.Claimed i c) j e = absurd cc
row_waits rows key Ordinary (lrp.Running i c) j e = absurd cc
row_waits rows key Ordinary lrp.Crashed j e = absurd cc
row_waits rows key Evacuating s j e = absurd cc
row_waits rows key Suspect s j e = absurd cc

abbrev name_or : JobName → Option Job → JobName
name_or other o = option_map_or (λ (j : Job). j.job) o other

task_waits : (t : Task) (s : TaskState) (j : Job) → pending_job t s ≡ Some j
    → (s ≡ task.Pending) × (j.job ≡ name.Task t.name)
task_waits t task.Pending j e = (refl, sym (ap (name_or (name.Task t.name)) e))
task_waits t (task.Running i c) j e = absurd cc
task_waits t (task.Completed failed) j e = absurd cc
task_waits t (task.Resolving failed) j e = absurd cc

pub job-waits : (rows : Rows) (j : Job) → IsValid rows → Contains (jobs rows) j → IsRowWaiting rows j.job
job-waits rows j valid inside =
    ⊎_elim
    (λ here.
    let k = from_kept (row_job rows) rows.actual j here in
    let w = row_waits rows k.0.key k.0.presence k.0.state j k.2 in
    let found : find_actual rows k.0.key k.0.presence ≡ Some k.0 =
    find_row-Contains place_order place_of IsKeyOrder-place_order k.0 rows.actual valid.actual.rising k.1 in
    subst (IsRowWaiting rows) (sym w.2) (
      k.0,
      subst (λ (p : Presence). find_actual rows k.0.key p ≡ Some k.0) w.0 found,
      w.1,
    ))
    (λ here.
    let k = from_kept task_job rows.tasks j here in
    let w = task_waits k.0 k.0.state j k.2 in
    subst (IsRowWaiting rows) (sym w.1) (
      k.0,
      find_row-Contains name_order task_name_of IsKeyOrder-name_order k.0
          rows.tasks valid.tasks.rising k.1,
      w.0,
    ))
    (Contains-append_cases (filter_map (row_job rows) rows.actual) (filter_map task_job rows.tasks) j inside)

-- so does what has a placement
pub placed-waits : (rows : Rows) (roomy : List Answer) (n : JobName) → IsValid rows → AreJobs (jobs rows)
    → Contains (map job_in (placements rows roomy)) n → IsRowWaiting rows n
placed-waits rows roomy n valid differ inside =
    let j = placed-of roomy (jobs rows) differ n inside in
    subst (IsRowWaiting rows) j.2 (job-waits rows j.0 valid j.1)

both : (a b : Bool) → (a && b) ≡ true → a ≡ true
both true b e = refl
both false b e = absurd cc

joined_there : (now : Moment) (e : ℕ) (o : Option CellRow) (x : Attempt)
    → option_map_or (λ (c : CellRow). c.epoch == e && is_present c now) o false ≡ true → IsFair x
    → IsFair (if_joined o e (λ c. x))
joined_there now e None x there fair = absurd cc
joined_there now e (Some c) x there fair =
    subst (λ (b : Bool). IsFair (cond b x (Refuse (why.StaleEpoch c.epoch))))
    (sym (both (c.epoch == e) (is_present c now) there)) fair

-- a claim of what waits, on a cell that is there
pub fair-claim : (old new : Rows) (now : Moment) (n : JobName) (i : Instance) (cell : List ℕ) → IsRowWaiting old n
    → IsAsBefore old new (subject_for n) → is_there new now cell i.epoch ≡ true
    → IsFair (attempt_of new (at now (claim_op cell n i)))
fair-claim old new now (name.Lrp key) i cell w h there =
    subst (λ (o : Option Actual). IsFair (if_known o (λ x.
    if_joined (find_cell new cell) i.epoch (λ c. moved_to x (lrp_move x (move.Claim i cell) now)))))
    (sym (h.ordinary key refl ∙ w.1))
    (joined_there now i.epoch (find_cell new cell) (moved_to w.0 (lrp_move w.0 (move.Claim i cell) now)) there
    (subst (λ (s : LrpState). IsFair (moved_to w.0 (from_state s w.0 (move.Claim i cell) now))) (sym w.2) tt))
fair-claim old new now (name.Task n) i cell w h there =
    subst (λ (o : Option Task). IsFair (if_known o (λ x. if_joined (find_cell new cell) i.epoch
    (λ c. task_moved_to x (task_move x (task_kind.Start i cell) now))))) (sym (h.tasks n refl ∙ w.1))
    (joined_there now i.epoch (find_cell new cell) (task_moved_to w.0 (task_move w.0 (task_kind.Start i cell) now))
    there
    (subst (λ (s : TaskState). IsFair (task_moved_to w.0 (task_from_state s w.0 (task_kind.Start i cell) now)))
    (sym w.2) tt))

-- a note of an instance that has no room
pub record IsNoteOf (now : Moment) (n : JobName) (c : Command) : Type 0 where
  pub key : Key
  pub name_is : n ≡ name.Lrp key
  pub is : c ≡ at now (op.PlaceFail key)

fail_is : (now : Moment) (a : Actual) (c : Command) (b : Bool)
    → cond b (Some (at now (op.PlaceFail a.key))) None ≡ Some c → c ≡ at now (op.PlaceFail a.key)
fail_is now a c true e = sym (ap (λ (o : Option Command). option_map_or (λ x. x) o c) e)
fail_is now a c false e = absurd cc

fail_from : (rows : Rows) (now : Moment) (key : Key) (o : Option Actual) (c : Command)
    → find_actual rows key Ordinary ≡ o → option_and_then (fail_if now) o ≡ Some c → c ≡ at now (op.PlaceFail key)
fail_from rows now key None c is e = absurd cc
fail_from rows now key (Some a) c is e =
    fail_is now a c (not a.error) e ∙ ap (λ (p : Key × Presence). at now (op.PlaceFail p.0))
    (key-find_row place_order place_of IsKeyOrder-place_order (key, Ordinary) a rows.actual is)

pub note-of : (rows : Rows) (now : Moment) (n : JobName) (c : Command) → fail_of rows now n ≡ Some c → IsNoteOf now n c
note-of rows now (name.Lrp key) c e = record {
  key = key;
  name_is = refl;
  is =
      fail_from rows now key (find_actual rows key Ordinary) c refl e;
}
note-of rows now (name.Task t) c e = absurd cc

not_placed_fair : (a : Actual) (b : Bool) → IsFair (moved_to a
    (cond b end.Same (end.Changed (record a { error = true }))))
not_placed_fair a true = tt
not_placed_fair a false = tt

pub fair-note : (old new : Rows) (now : Moment) (key : Key) → IsRowWaiting old (name.Lrp key)
    → IsAsBefore old new (ordinary_of key) → IsFair (attempt_of new (at now (op.PlaceFail key)))
fair-note old new now key w h =
    fair_known (find_actual new key Ordinary) w.0 move.PlaceFail now (h.ordinary key refl ∙ w.1)
    (subst (λ (s : LrpState). IsFair (moved_to w.0 (from_state s w.0 move.PlaceFail now))) (sym w.2)
    (not_placed_fair w.0 w.0.error))
