use Rattle.std.proofs.Common.{◌≡◌, ◌==◌, ◌∙◌, ap, refl, sym}
use Rattle.std.proofs.lemmas.Bool.{ne_eqb}
use Rattle.forecast_records.specs.declared.cases.Case.{Case}
use Rattle.loss_cases.specs.Cases.{alone_case, case_of, goes_alone}
use Rattle.loss_cases.proofs.Alone.{able_joined, able_stays, tried_next}
use Rattle.loss_cases.proofs.trying.try_alone.Goals as goal
use Rattle.loss_cases.proofs.trying.try_alone.Goals.{then-can_go+in_ok-push-2, else-can_go}

pub loop-cell-preserved : goal.loop-cell-preserved
loop-cell-preserved c =
    let site = c.args.question.now.base.site.now in
    let cell = c.cell-item.result in
    let case = c.in_ok-case.case in
    let is : case ≡ alone_case site cell = c.in_ok-case.ensures ∙ ap (case_of site) c.in_ok-loss.ensures in
    let goes : goes_alone site cell ≡ (case.unplaced == 0) = sym (ap (λ (k : Case). k.unplaced == 0) is) in
    record {
      cases =
          tried_next (alone_case site) c.args.cases.now.items c.loop-cell.cases.items c.push.new.self.items
          c.args.cells.now
          c.loop-cell.cell-index cell case c.loop-cell-test.true c.cell-item.is c.loop-cell.invariant.cases is
          c.in_ok-push.ensures.items;
      able = elim c.if-can_go.branch [
        | then-can_go+in_ok-push-2 w ↦
            rw (w.able-is)
            (able_joined (goes_alone site) c.args.cells.now c.loop-cell.cell-index cell c.loop-cell.able.items
            w.push-then-can_go.new.self.items
            c.loop-cell-test.true c.cell-item.is c.loop-cell.invariant.able
            (goes ∙ ap (λ n. n == 0) w.if-can_go.true) w.in_ok-push-2.ensures.items)
        | else-can_go w ↦
            rw (w.able-is)
            (able_stays (goes_alone site) c.args.cells.now c.loop-cell.cell-index cell c.loop-cell.able.items
            c.loop-cell.able.items
            c.loop-cell-test.true c.cell-item.is c.loop-cell.invariant.able
            (goes ∙ ne_eqb case.unplaced 0 w.if-can_go.false) refl)
      ];
    }
