-- What is asked of tasks leaves a valid board.
use Rattle.std.proofs.Common.{◌≡◌, ℕ, ◌+◌, ◌<◌, List, length, Option, Some, None, refl, ap, ◌∙◌, arith}
use Rattle.std.proofs.lemmas.Grind.{common_steps}
use Rattle.crash_backoff.specs.declared.moment.Moment.{Moment}
use Rattle.diego_names.specs.Order.{name_order}
use Rattle.diego_names.specs.declared.instance.Instance.{Instance}
use Rattle.diego_names.proofs.Public.{IsKeyOrder-name_order}
use Rattle.row_tables.specs.Table.{put_row, without_row}
use Rattle.row_tables.proofs.Public.{key-find_row}
use Rattle.task_records.specs.Laws.{KeepsTask}
use Rattle.task_records.specs.Moves.{task_move}
use Rattle.task_records.specs.declared.move_end.TaskEnd.{TaskEnd}
use Rattle.task_records.specs.declared.move_end.TaskEnd.TheVariants as end
use Rattle.task_records.specs.declared.move_kind.TaskMove.{TaskMove}
use Rattle.task_records.specs.declared.move_kind.TaskMove.TheVariants.{Start, Complete, Cancel, Resolve, Delete, Kick, Expire}
use Rattle.task_records.specs.declared.state.TaskState.TheVariants.{Pending}
use Rattle.task_records.specs.declared.task.Task.{Task}
use Rattle.task_records.proofs.Public.{KeepsTask-task_move}
use Rattle.bbs_model.specs.Attempts.{if_known, if_joined, put}
use Rattle.bbs_model.specs.Found.{found_by}
use Rattle.bbs_model.specs.Limits.{most_tasks, most_transitions}
use Rattle.bbs_model.specs.Step.{changed_by, advanced}
use Rattle.bbs_model.specs.Tables.{task_name_of, find_task, find_cell}
use Rattle.bbs_model.specs.Tasks.{new_task_refusals, new_task, task_moved_to}
use Rattle.bbs_model.specs.Valid.{IsHeldBefore, IsTaskRow, AreTasks, IsValid}
use Rattle.task_records.specs.States.{runner_of}
use Rattle.bbs_model.specs.declared.attempt.Attempt.{Attempt}
use Rattle.bbs_model.specs.declared.command.Op.TheVariants as op
use Rattle.bbs_model.specs.declared.event.Row.TheVariants as row
use Rattle.bbs_model.specs.declared.rows.Rows.{Rows}
use Rattle.bbs_laws.proofs.KeepEach.{each-find_row}
use Rattle.bbs_laws.proofs.KeepLrps.{cell-found}
use Rattle.bbs_laws.proofs.KeepSteps.{below_from, by_passing, by_knowing, by_joining}
use Rattle.bbs_laws.proofs.KeepTables.{AreTasks-put_new, AreTasks-put_known, AreTasks-without, AreActual-longer, AreTasks-longer, AreCells-longer}

-- the container that a move brings
abbrev pub brought_by : TaskMove → Option Instance
brought_by (Start instance cell) = Some instance
brought_by (Complete instance failed) = None
brought_by Cancel = None
brought_by Resolve = None
brought_by Delete = None
brought_by Kick = None
brought_by Expire = None

-- the task after a move is run by a container that ran it before or that the move brings, if by any
abbrev pub KeepsHeld : ℕ → TaskEnd → Type 0
KeepsHeld next (end.Changed new) = IsHeldBefore next (runner_of new.state)
KeepsHeld next end.Gone = Unit {0}
KeepsHeld next end.Same = Unit {0}
KeepsHeld next (end.Refused why) = Unit {0}

pub KeepsHeld-task_move : (next : ℕ) (row : Task) (move : TaskMove) (now : Moment)
    → IsHeldBefore next (runner_of row.state)
    → IsHeldBefore next (brought_by move) → KeepsHeld next (task_move row move now)
KeepsHeld-task_move next row move now held brought = grind (arith, common_steps)

pub name-found : (rows : Rows) (name : List ℕ) (old : Task) → find_task rows name ≡ Some old → old.name ≡ name
name-found rows name old known = key-find_row name_order task_name_of IsKeyOrder-name_order name old rows.tasks known

pub task-found : (rows : Rows) (name : List ℕ) (old : Task) → IsValid rows → find_task rows name ≡ Some old
    → IsTaskRow rows.next old
task-found rows name old valid known = each-find_row name_order task_name_of
    (IsTaskRow rows.next) name old rows.tasks valid.tasks.each known

-- other tasks, and one transition more
with_tasks : (rows : Rows) (tasks : List Task) → IsValid rows → rows.next < most_transitions
    → AreTasks (rows.next + 1) tasks
    → IsValid (advanced (record rows { tasks = tasks }))
with_tasks rows tasks valid room h = record {
  desired = valid.desired;
  actual = AreActual-longer rows.next rows.actual valid.actual;
  tasks = h;
  cells = AreCells-longer rows.next rows.cells valid.cells;
  domains = valid.domains;
  next = omega arith;
}

-- what a move's end comes to
pub IsValid-moved_to : (rows : Rows) (old : Task) (now : Moment) (end : TaskEnd) → IsValid rows
    → rows.next < most_transitions
    → find_task rows old.name ≡ Some old → IsTaskRow rows.next old → KeepsTask old now end → KeepsHeld rows.next end
    → IsValid (changed_by rows (task_moved_to old end))
IsValid-moved_to rows old now (end.Changed new) valid room known there same held =
    let known_new : find_task rows new.name ≡ Some old = ap (find_task rows) same.task.name ∙ known in
    let fits : IsTaskRow rows.next new = record { born = omega (arith, there.born, same.task.birth); held = held } in
    let put_there = put_row name_order task_name_of new rows.tasks in
    with_tasks rows put_there valid room (AreTasks-longer rows.next put_there
    (AreTasks-put_known rows.next new old rows.tasks valid.tasks fits known_new same.task.birth))
IsValid-moved_to rows old now end.Gone valid room known there same held =
    let left = without_row name_order task_name_of old.name rows.tasks in
    with_tasks rows left valid room (AreTasks-longer rows.next left
    (AreTasks-without rows.next old.name rows.tasks valid.tasks))
IsValid-moved_to rows old now end.Same valid room known there same held = valid
IsValid-moved_to rows old now (end.Refused why) valid room known there same held = valid

module _ (rows : Rows) (valid : IsValid rows) (room : rows.next < most_transitions) where
  -- the rows are valid after the attempt
  abbrev Stays : Attempt → Type 0
  Stays attempt = IsValid (changed_by rows attempt)

  pub IsValid-new_task : (name : List ℕ) (memory disk : ℕ) (tag : Option (List ℕ)) (now : Moment)
      → IsValid (changed_by rows (new_task (found_by rows (op.NewTask name memory disk tag)) name memory disk tag now))
  IsValid-new_task name memory disk tag now =
      let new : Task = record {
        name = name;
        birth = rows.next;
        state = Pending;
        since = now;
        memory = memory;
        disk =
            disk;
        tag = tag;
      } in
      by_passing Stays (λ why. valid) (new_task_refusals (found_by rows (op.NewTask name memory disk tag)))
      (put (row.Task new)) (λ passed.
      with_tasks rows (put_row name_order task_name_of new rows.tasks) valid room
      (AreTasks-put_new rows.next new rows.tasks valid.tasks refl (record { born = omega arith; held = tt })
      (below_from most_tasks (length rows.tasks) passed.1.0)))

  IsValid-moved : (name : List ℕ) (old : Task) (move : TaskMove) (now : Moment) → find_task rows name ≡ Some old
      → IsHeldBefore rows.next (brought_by move) → IsValid
      (changed_by rows (task_moved_to old (task_move old move now)))
  IsValid-moved name old move now known brought =
      let there = task-found rows name old valid known in
      IsValid-moved_to rows old now (task_move old move now) valid room
      (ap (find_task rows) (name-found rows name old known) ∙ known) there
      (KeepsTask-task_move old move now) (KeepsHeld-task_move rows.next old move now there.held brought)

  pub IsValid-move_task : (name : List ℕ) (move : TaskMove) (now : Moment) → IsHeldBefore rows.next (brought_by move)
      → IsValid (changed_by rows (if_known (find_task rows name) (λ old. task_moved_to old (task_move old move now))))
  IsValid-move_task name move now brought =
      by_knowing Stays (λ why. valid) (find_task rows name) (λ old. task_moved_to old (task_move old move now))
      (λ old known.
      IsValid-moved name old move now known brought)

  pub IsValid-move_task_by_cell : (name : List ℕ) (instance : Instance) (cell : List ℕ) (move : TaskMove) (now : Moment)
      → (instance.epoch < rows.next → IsHeldBefore rows.next (brought_by move))
      → IsValid (changed_by rows (if_known (find_task rows name) (λ old.
      if_joined (find_cell rows cell) instance.epoch (λ c. task_moved_to old (task_move old move now)))))
  IsValid-move_task_by_cell name instance cell move now brought =
      by_knowing Stays (λ why. valid) (find_task rows name)
      (λ old. if_joined (find_cell rows cell) instance.epoch (λ c. task_moved_to old (task_move old move now)))
      (λ old known.
      by_joining Stays (λ why. valid) (find_cell rows cell) instance.epoch
      (λ c. task_moved_to old (task_move old move now)) (λ joined there same.
      let before = cell-found rows cell joined valid there in
      let past : instance.epoch < rows.next = omega (arith, before, same) in
      IsValid-moved name old move now known (brought past)))
