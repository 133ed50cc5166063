use Rattle.std.proofs.Common.{◌≡◌, ◌+◌, ◌++◌, drop}
use Rattle.what_if.specs.Sites.{numbered, task_container}
use Rattle.what_if.proofs.containers.task_containers.Given as goal

abbrev pub invariant-loop-task : goal.invariant-loop-task
invariant-loop-task l = record {
  number : l.number ≡ l.others + l.task-index;
  so_far : l.list ++ numbered task_container (l.number + 1) (drop l.task-index l.tasks)
      ≡ numbered task_container (l.others + 1) l.tasks;
}
