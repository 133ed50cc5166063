use Rattle.std.proofs.Common.{sym, subst}
use Rattle.bbs_model.specs.Valid.{AreDesired, AreActual, AreTasks, AreCells, AreDomains}
use Rattle.cell_tests.proofs.Boards.{no_desired, no_actual, no_tasks, no_cells, no_domains}
use Rattle.cell_tests.proofs.tests.empty_board.Goals as goal

pub returns : goal.returns
returns c = record {
  desired = subst AreDesired (sym c.new.ensures) no_desired;
  actual = subst (AreActual c.args.next) (sym c.new-2.ensures) (no_actual c.args.next);
  tasks = subst (AreTasks c.args.next) (sym c.new-3.ensures) (no_tasks c.args.next);
  cells = subst (AreCells c.args.next) (sym c.new-4.ensures) (no_cells c.args.next);
  domains = subst AreDomains (sym c.new-5.ensures) no_domains;
  next = c.requires;
}
