use Rattle.std.proofs.Common.{◌+◌, List, [], ◌∷◌, ◌++◌, drop, sym, ap, ◌∙◌, append_assoc, arith}
use Rattle.cell_records.specs.declared.container.Container.{Container}
use Rattle.what_if.specs.Sites.{task_container, numbered}
use Rattle.what_if.proofs.Lists.{drop_next}
use Rattle.what_if.proofs.containers.task_containers.Goals as goal

pub loop-task-preserved : goal.loop-task-preserved
loop-task-preserved c =
    let xs = c.args.tasks.now in
    let i = c.loop-task.task-index in
    let x = c.task-item.result in
    let n = c.loop-task.number + 1 in
    let list = c.loop-task.list in
    let rest = drop (i + 1) xs in
    record {
      number = omega (arith, c.loop-task.invariant.number);
      so_far =
          ap (λ (ys : List Container). ys ++ numbered task_container (n + 1) rest) c.in_ok-add_task.ensures
          ∙ append_assoc list (task_container n x ∷ []) (numbered task_container (n + 1) rest)
          ∙ ap (λ zs. list ++ numbered task_container n zs) (sym
          (drop_next xs i x c.loop-task-test.true c.task-item.is))
          ∙ c.loop-task.invariant.so_far;
    }
