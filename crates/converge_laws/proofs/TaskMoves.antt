-- What an accepted command leaves of its task.
use Rattle.std.proofs.Common.{◌≡◌, ◌⊎◌, ℕ, ◌+◌, ◌&&◌, ◌==◌, Bool, true, false, cond, List, Option, Some, None, nat_le, refl, subst, ◌∙◌, inl, inr}
use Rattle.cell_records.specs.declared.cell_row.CellRow.{CellRow}
use Rattle.crash_backoff.specs.declared.moment.Moment.{Moment}
use Rattle.diego_names.proofs.Public.{IsKeyOrder-name_order}
use Rattle.diego_names.specs.Order.{name_order}
use Rattle.diego_names.specs.declared.instance.Instance.{Instance}
use Rattle.lrp_records.specs.States.{is_same_instance}
use Rattle.row_tables.specs.Table.{find_row, put_row, without_row}
use Rattle.row_tables.proofs.Public.{key-find_row, find_row-put_row_same, find_row-without_row_same}
use Rattle.task_records.proofs.Public.{KeepsTask-task_move}
use Rattle.task_records.specs.Laws.{KeepsTask}
use Rattle.task_records.specs.Moves.{task_move, task_from_state}
use Rattle.task_records.specs.Steps.{task_turned, if_own_task, once_due}
use Rattle.task_records.specs.declared.move_end.TaskEnd.{TaskEnd}
use Rattle.task_records.specs.declared.move_end.TaskEnd.TheVariants as end
use Rattle.task_records.specs.declared.move_kind.TaskMove.{TaskMove}
use Rattle.task_records.specs.declared.move_kind.TaskMove.TheVariants as move
use Rattle.task_records.specs.declared.refusal.TaskRefusal.TheVariants as why
use Rattle.task_records.specs.declared.state.TaskState.{TaskState}
use Rattle.task_records.specs.declared.state.TaskState.TheVariants as state
use Rattle.task_records.specs.declared.task.Task.{Task}
use Rattle.bbs_model.specs.Attempts.{if_known, if_joined}
use Rattle.bbs_model.specs.Runs.{state_after}
use Rattle.bbs_model.specs.Step.{changed_by, verdict_of}
use Rattle.bbs_model.specs.Tables.{task_name_of, find_cell, find_task}
use Rattle.bbs_model.specs.Tasks.{task_moved_to}
use Rattle.bbs_model.specs.Work.{at}
use Rattle.bbs_model.specs.declared.command.Op.TheVariants as op
use Rattle.bbs_model.specs.declared.rows.Rows.{Rows}
use Rattle.bbs_laws.proofs.Public.{by_knowing, by_joining}
use Rattle.converge_laws.specs.Accepted.{IsAccepted}
use Rattle.converge_laws.proofs.Frames.{IsTried}
use Rattle.converge_laws.proofs.Moves.{IfTried, by_attempt}

-- the task after the end of a move
abbrev pub task_left_by : Task → TaskEnd → Option Task
task_left_by old (end.Changed new) = Some new
task_left_by old end.Gone = None
task_left_by old end.Same = Some old
task_left_by old (end.Refused because) = Some old

-- the move isn't refused
abbrev pub IsTaskTaken : TaskEnd → Type 0
IsTaskTaken (end.Changed new) = Unit {0}
IsTaskTaken end.Gone = Unit {0}
IsTaskTaken end.Same = Unit {0}
IsTaskTaken (end.Refused because) = ⊥

-- a move was made on a task
pub record IsTaskMoved (rows : Rows) (name : List ℕ) (asked : TaskMove) (now : Moment) (new : Rows) : Type 0 where
  pub old : Task
  pub found : find_task rows name ≡ Some old
  pub taken : IsTaskTaken (task_move old asked now)
  pub after : find_task new name ≡ task_left_by old (task_move old asked now)

module _ (rows : Rows) (name : List ℕ) (old : Task) (found : find_task rows name ≡ Some old) where
  name-is : old.name ≡ name
  name-is = key-find_row name_order task_name_of IsKeyOrder-name_order name old rows.tasks found

  moved-end : (now : Moment) (e : TaskEnd) → KeepsTask old now e → IsTried (task_moved_to old e)
      → IsTaskTaken e × (find_task (changed_by rows (task_moved_to old e)) name ≡ task_left_by old e)
  moved-end now (end.Changed new) keeps h = (
    tt,
    subst (λ (n : List ℕ). find_row name_order task_name_of n (put_row name_order task_name_of new rows.tasks)
        ≡ Some new) (keeps.task.name ∙ name-is)
        (find_row-put_row_same name_order task_name_of IsKeyOrder-name_order new rows.tasks),
  )
  moved-end now end.Gone keeps h = (
    tt,
    subst (λ (n : List ℕ). find_row name_order task_name_of n (without_row name_order task_name_of old.name rows.tasks)
        ≡ None) name-is
        (find_row-without_row_same name_order task_name_of IsKeyOrder-name_order old.name rows.tasks),
  )
  moved-end now end.Same keeps h = (tt, found)
  moved-end now (end.Refused because) keeps h = absurd h

module _ (rows : Rows) (name : List ℕ) (asked : TaskMove) (now : Moment) where
  moved-known : (old : Task) → find_task rows name ≡ Some old
      → IfTried (λ attempt. IsTaskMoved rows name asked now (changed_by rows attempt))
      (task_moved_to old (task_move old asked now))
  moved-known old found h =
      let made = moved-end rows name old found now (task_move old asked now) (KeepsTask-task_move old asked now) h in
      record { old = old; found = found; taken = made.0; after = made.1 }

  moved : let attempt = if_known (find_task rows name) (λ old. task_moved_to old (task_move old asked now)) in
      IsTried attempt → IsTaskMoved rows name asked now (changed_by rows attempt)
  moved =
      by_knowing (IfTried (λ attempt. IsTaskMoved rows name asked now (changed_by rows attempt)))
      (λ because h. absurd h)
      (find_task rows name) (λ old. task_moved_to old (task_move old asked now)) (λ old found. moved-known old found)

  moved-by_cell : (cell : Option CellRow) (epoch : ℕ) →
      let attempt = if_known (find_task rows name) (λ old.
      if_joined cell epoch (λ c. task_moved_to old (task_move old asked now))) in
      IsTried attempt → IsTaskMoved rows name asked now (changed_by rows attempt)
  moved-by_cell cell epoch =
      let P = IfTried (λ attempt. IsTaskMoved rows name asked now (changed_by rows attempt)) in
      by_knowing P (λ because h. absurd h) (find_task rows name)
      (λ old. if_joined cell epoch (λ c. task_moved_to old (task_move old asked now))) (λ old found.
      by_joining P (λ because h. absurd h) cell epoch (λ c. task_moved_to old (task_move old asked now))
      (λ c joined same. moved-known old found))

module _ (rows : Rows) (now : Moment) (name : List ℕ) where
  pub after-cancel : IsAccepted (verdict_of rows (at now (op.CancelTask name)))
      → IsTaskMoved rows name move.Cancel now (state_after rows (at now (op.CancelTask name)))
  after-cancel h = by_attempt (IsTaskMoved rows name move.Cancel now) rows (at now (op.CancelTask name)) h
      (moved rows name move.Cancel now)

  pub after-kick : IsAccepted (verdict_of rows (at now (op.KickTask name)))
      → IsTaskMoved rows name move.Kick now (state_after rows (at now (op.KickTask name)))
  after-kick h = by_attempt (IsTaskMoved rows name move.Kick now) rows (at now (op.KickTask name)) h
      (moved rows name move.Kick now)

  pub after-expire : IsAccepted (verdict_of rows (at now (op.ExpireTask name)))
      → IsTaskMoved rows name move.Expire now (state_after rows (at now (op.ExpireTask name)))
  after-expire h = by_attempt (IsTaskMoved rows name move.Expire now) rows (at now (op.ExpireTask name)) h
      (moved rows name move.Expire now)

  pub after-complete : (instance : Instance) (failed : Bool)
      → IsAccepted (verdict_of rows (at now (op.CompleteTask name instance failed)))
      → IsTaskMoved rows name (move.Complete instance failed) now
      (state_after rows (at now (op.CompleteTask name instance failed)))
  after-complete instance failed h =
      by_attempt (IsTaskMoved rows name (move.Complete instance failed) now) rows
      (at now (op.CompleteTask name instance failed)) h (moved rows name (move.Complete instance failed) now)

  pub after-start : (instance : Instance) (cell : List ℕ)
      → IsAccepted (verdict_of rows (at now (op.StartTask name instance cell)))
      → IsTaskMoved rows name (move.Start instance cell) now
      (state_after rows (at now (op.StartTask name instance cell)))
  after-start instance cell h =
      by_attempt (IsTaskMoved rows name (move.Start instance cell) now) rows
      (at now (op.StartTask name instance cell)) h
      (moved-by_cell rows name (move.Start instance cell) now (find_cell rows cell) instance.epoch)

-- the task is there, and COMPLETED just now; or it is gone
abbrev pub HasEnded : Moment → Option Task → Type 0
HasEnded now row = (row ≡ None) ⊎ ((t : Task) × (row ≡ Some t) × (failed : Bool) × (t.state ≡ state.Completed failed)
    × (t.since ≡ now))

module _ (old : Task) (now : Moment) where
  completed : (failed : Bool) → HasEnded now (task_left_by old (task_turned old (state.Completed failed) now))
  completed failed = inr (record old { state = state.Completed failed; since = now }, refl, failed, refl, refl)

  ended-own : (instance held : Instance) (e : TaskEnd) → HasEnded now (task_left_by old e)
      → IsTaskTaken (if_own_task instance held e) → HasEnded now (task_left_by old (if_own_task instance held e))
  ended-own instance held e f h =
      elim (instance.epoch == held.epoch && instance.number == held.number) as
      (λ (b : Bool). IsTaskTaken (cond b e (end.Refused (why.WrongInstance held)))
      → HasEnded now (task_left_by old (cond b e (end.Refused (why.WrongInstance held)))))
      [ true ↦ λ g. f | false ↦ λ g. absurd g ] h

  ended-once : (seconds : ℕ) (e : TaskEnd) → HasEnded now (task_left_by old e)
      → IsTaskTaken (once_due old seconds now e) → HasEnded now (task_left_by old (once_due old seconds now e))
  ended-once seconds e f h =
      elim (nat_le (old.since.0 + seconds) now.0) as (λ (b : Bool).
      IsTaskTaken (cond b e (end.Refused (why.NotDue (old.since.0 + seconds))))
      → HasEnded now (task_left_by old (cond b e (end.Refused (why.NotDue (old.since.0 + seconds))))))
      [ true ↦ λ g. f | false ↦ λ g. absurd g ] h

  cancelled-state : (s : TaskState) → IsTaskTaken (task_from_state s old move.Cancel now)
      → HasEnded now (task_left_by old (task_from_state s old move.Cancel now))
  cancelled-state state.Pending h = completed true
  cancelled-state (state.Running instance cell) h = completed true
  cancelled-state (state.Completed failed) h = absurd h
  cancelled-state (state.Resolving failed) h = absurd h

  -- a task that was given up has ended
  pub has-cancelled : IsTaskTaken (task_move old move.Cancel now)
      → HasEnded now (task_left_by old (task_move old move.Cancel now))
  has-cancelled h = cancelled-state old.state h

  kicked-state : (s : TaskState) → IsTaskTaken (task_from_state s old move.Kick now)
      → HasEnded now (task_left_by old (task_from_state s old move.Kick now))
  kicked-state state.Pending h = absurd h
  kicked-state (state.Running instance cell) h = absurd h
  kicked-state (state.Completed failed) h = absurd h
  kicked-state (state.Resolving failed) h = ended-once 30 (task_turned old (state.Completed failed) now)
      (completed failed) h

  -- so has one whose client didn't end
  pub has-kicked : IsTaskTaken (task_move old move.Kick now)
      → HasEnded now (task_left_by old (task_move old move.Kick now))
  has-kicked h = kicked-state old.state h

  expired-state : (s : TaskState) → IsTaskTaken (task_from_state s old move.Expire now)
      → HasEnded now (task_left_by old (task_from_state s old move.Expire now))
  expired-state state.Pending h = absurd h
  expired-state (state.Running instance cell) h = absurd h
  expired-state (state.Completed failed) h = ended-once 120 end.Gone (inl refl) h
  expired-state (state.Resolving failed) h = absurd h

  -- one that nobody took is gone
  pub has-expired : IsTaskTaken (task_move old move.Expire now)
      → HasEnded now (task_left_by old (task_move old move.Expire now))
  has-expired h = expired-state old.state h

  ended-state : (instance : Instance) (failed : Bool) (s : TaskState)
      → IsTaskTaken (task_from_state s old (move.Complete instance failed) now)
      → HasEnded now (task_left_by old (task_from_state s old (move.Complete instance failed) now))
  ended-state instance failed state.Pending h = absurd h
  ended-state instance failed (state.Running held cell) h =
      ended-own instance held (task_turned old (state.Completed failed) now) (completed failed) h
  ended-state instance failed (state.Completed was) h = absurd h
  ended-state instance failed (state.Resolving was) h = absurd h

  -- one that its container completed has ended
  pub has-completed : (instance : Instance) (failed : Bool)
      → IsTaskTaken (task_move old (move.Complete instance failed) now)
      → HasEnded now (task_left_by old (task_move old (move.Complete instance failed) now))
  has-completed instance failed h = ended-state instance failed old.state h

-- a started task: PENDING before, or RUNNING in that container already
pub record IsNowRunning (old : Task) (instance : Instance) (cell : List ℕ) (row : Option Task) : Type 0 where
  pub new : Task
  pub is : row ≡ Some new
  pub how : ((old.state ≡ state.Pending) × (new.state ≡ state.Running instance cell) × (new.name ≡ old.name))
      ⊎ ((new ≡ old) × (held : Instance) × (where' : List ℕ) × (old.state ≡ state.Running held where')
      × (is_same_instance instance held ≡ true))

module _ (old : Task) (now : Moment) (instance : Instance) (cell : List ℕ) where
  started-own : (held : Instance) (where' : List ℕ) → old.state ≡ state.Running held where'
      → IsTaskTaken (if_own_task instance held end.Same)
      → IsNowRunning old instance cell (task_left_by old (if_own_task instance held end.Same))
  started-own held where' is h =
      elim (instance.epoch == held.epoch && instance.number == held.number) as
      (λ (b : Bool). (instance.epoch == held.epoch && instance.number == held.number) ≡ b
      → IsTaskTaken (cond b end.Same (end.Refused (why.WrongInstance held)))
      → IsNowRunning old instance cell (task_left_by old (cond b end.Same (end.Refused (why.WrongInstance held))))) [
        | true ↦ λ e f. record { new = old; is = refl; how = inr (refl, held, where', is, e) }
        | false ↦ λ e f. absurd f
      ] refl h

  started-state : (s : TaskState) → old.state ≡ s → IsTaskTaken (task_from_state s old (move.Start instance cell) now)
      → IsNowRunning old instance cell (task_left_by old (task_from_state s old (move.Start instance cell) now))
  started-state state.Pending is h = record {
    new = record old { state = state.Running instance cell; since = now };
    is = refl;
    how = inl (is, refl, refl);
  }
  started-state (state.Running held where') is h = started-own held where' is h
  started-state (state.Completed failed) is h = absurd h
  started-state (state.Resolving failed) is h = absurd h

  -- a start that is accepted leaves the task with its container, or had done so before
  pub started : IsTaskTaken (task_move old (move.Start instance cell) now)
      → IsNowRunning old instance cell (task_left_by old (task_move old (move.Start instance cell) now))
  started h = started-state old.state refl h
