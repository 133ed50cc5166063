-- Rows that compare as equal are the same.
use Rattle.std.proofs.Common.{◌≡◌}
use Rattle.std.specs.Bool.{Decides}
use Rattle.std.proofs.lemmas.Bool.Decides.{Decides-and, Decides-eqb, Decides-like}
use Rattle.task_records.specs.contracts.task.TaskPartialEq.TheImpl as task_eq
use Rattle.task_records.specs.declared.task.Task.{Task}
use Rattle.standby_board.proofs.Alike.{alike}
use Rattle.standby_board.proofs.SameParts.{moments, names, options, task_states}
use Rattle.standby_board.proofs.equality.same_tasks.Goals as goal

same : (a b : Task) → Decides ((task_eq.ghosts).eq a b) (a ≡ b)
same a b = Decides-like _
    (λ h i. record {
      name = h.0 i;
      birth = h.1.0 i;
      state = h.1.1.0 i;
      since = h.1.1.1.0 i;
      memory = h.1.1.1.1.0 i;
      disk = h.1.1.1.1.1.0 i;
      tag = h.1.1.1.1.1.1 i;
    })
    (λ e. (cc, (cc, (cc, (cc, (cc, (cc, cc)))))))
    (Decides-and _ _ (names a.name b.name)
    (Decides-and _ _ (Decides-eqb a.birth b.birth)
    (Decides-and _ _ (task_states a.state b.state)
    (Decides-and _ _ (moments a.since b.since)
    (Decides-and _ _ (Decides-eqb a.memory b.memory)
    (Decides-and _ _ (Decides-eqb a.disk b.disk) (options names a.tag b.tag)))))))

pub returns : goal.returns
returns c = alike _ _ _ c.eq.ensures same
