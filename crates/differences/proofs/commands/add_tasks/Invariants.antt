use Rattle.std.proofs.Common.{◌≡◌, ◌++◌, ◌+◌, ◌≤◌, map, take}
use Rattle.std.specs.List.{filter_map}
use Rattle.bbs_model.specs.Work.{at}
use Rattle.differences.specs.Commands.{command_of_task}
use Rattle.differences.proofs.commands.add_tasks.Given as goal

abbrev pub invariant-loop-name : goal.invariant-loop-name
invariant-loop-name g l = record {
  list : l.list ≡ l.fn.list ++ map (at l.now)
      (filter_map (command_of_task (g.C.CountedRows.rows l.initial.rows)) (take l.name-index l.names));
  keeps : g.C.CountedRows.keeps l.initial.rows l.rows;
  rows : g.C.CountedRows.rows l.rows ≡ g.C.CountedRows.rows l.initial.rows;
  steps : g.C.CountedRows.steps l.rows ≤ g.C.CountedRows.steps l.initial.rows + l.name-index;
}
