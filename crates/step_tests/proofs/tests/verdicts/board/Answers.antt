use Rattle.std.proofs.Common.{◌≡◌, None, [], ◌∷◌, sym, ap, subst, ◌∙◌, arith}
use Rattle.lrp_records.specs.declared.desired.Desired.{Desired}
use Rattle.bbs_model.specs.Valid.{AreDesired, AreActual, AreTasks, AreCells, AreDomains}
use Rattle.step_tests.proofs.Boards.{one_desired, no_actual, no_tasks, no_cells, no_domains}
use Rattle.step_tests.proofs.tests.verdicts.board.Goals as goal

pub returns : goal.returns
returns c =
    let row : Desired = record {
      process = c.args.web;
      domain = c.args.web;
      instances = 1;
      memory = 64;
      disk =
          128;
      tag = None;
      route = None;
      port = 8080;
    } in
    let desired : c.from.result ≡ row ∷ [] = c.from.ensures ∙ c.in_ok-desired.ensures.items ∙ ap
    (λ d. d ∷ []) c.process.ensures in
    record {
      desired = subst AreDesired (sym desired) (one_desired row (omega arith));
      actual = subst (AreActual c.args.next) (sym c.new.ensures) (no_actual c.args.next);
      tasks = subst (AreTasks c.args.next) (sym c.new-2.ensures) (no_tasks c.args.next);
      cells = subst (AreCells c.args.next) (sym c.new-3.ensures) (no_cells c.args.next);
      domains = subst AreDomains (sym c.new-4.ensures) no_domains;
      next = c.requires;
    }
