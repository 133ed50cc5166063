-- What a round over a port did is what it did by its port.
use Rattle.std.proofs.Common.{List, Option, Result, Ok, Err, IfOk, length, refl, ap, sym, subst, ◌∙◌}
use Rattle.std.specs.Prelude.{IfErr}
use Rattle.bbs_model.specs.PortView.{PortView}
use Rattle.bbs_model.specs.declared.reply.CallFault.{CallFault}
use Rattle.bbs_model.specs.declared.reply.CallFault.TheVariants as fault
use Rattle.cell_rep.specs.declared.rep.CellRep.{CellRep}
use Rattle.convergence.specs.declared.report.Report.{Report}
use Rattle.converge_round.specs.Faults.{IsCausedBy}
use Rattle.converge_round.specs.Items.{HasItems}
use Rattle.converge_round.specs.Reps.{KeepReps}
use Rattle.crash_backoff.specs.declared.moment.Moment.{Moment}
use Rattle.phase_runs.specs.Rounds.{RoundOf}
use Rattle.scenario_lines.specs.declared.script.RoundLine.{RoundLine}
use Rattle.phase_threads.specs.Holding.{IsEndOfRound, ReportsRound}
use Rattle.phase_threads.proofs.Pairs.{lent_whole}
use Rattle.phase_threads.proofs.holding.hold_round.Goals as goal

reported : {E : Type 0} (now : Moment) (line : RoundLine) (reps reps' : List CellRep) (v w : PortView)
    (end : Result Report CallFault)
    (told : Result (Option Report) E) → IsEndOfRound end told → IfErr end (IsCausedBy 0 v w)
    → IfOk end (RoundOf now line reps reps' v w)
    → IfOk told (ReportsRound now line reps reps' v w)
reported now line reps reps' v w (Ok r) told is cause account =
    subst (λ t. IfOk t (ReportsRound now line reps reps' v w)) (sym is) account
reported now line reps reps' v w (Err (fault.Disk place)) told is cause account =
    subst (λ t. IfOk t (ReportsRound now line reps reps' v w)) (sym is) (place, cause.disk place refl)
reported now line reps reps' v w (Err fault.OutOfMemory) (Ok report) is cause account = cc (is)
reported now line reps reps' v w (Err fault.OutOfMemory) (Err why) is cause account = tt

pub returns : goal.returns
returns g c =
    let reps = c.args.cells.items in let new = c.round_over-end.new.cells in let lent = c.as_mut_slice.ensures.value in
    let whole = lent_whole c.args.cells.len new reps (c.round_over-end.auto.cells ∙ ap length lent) c.args.cells.ok.0 in
    let v = g.P.Port.view c.args.port.port in let w = g.P.Port.view c.round_over-end.new.port.port in
    record {
      keeps = c.round_over-end.ensures.keeps.0;
      items = subst (λ (l : List CellRep). HasItems 0 c.args.now l v w) lent c.round_over-end.ensures.items;
      same = subst (KeepReps reps) (sym whole) (subst (λ (l : List CellRep). KeepReps l new) lent
          c.round_over-end.ensures.cells);
      reported = subst (λ (l : List CellRep). IfOk c.report_of-end.result
          (ReportsRound c.args.now c.args.line.now reps l v w)) (sym whole)
          (reported c.args.now c.args.line.now reps new v w c.round_over-end.result c.report_of-end.result
          c.report_of-end.ensures
          c.round_over-end.ensures.cause
          (subst (λ (l : List CellRep). IfOk c.round_over-end.result (RoundOf c.args.now c.args.line.now l new v w))
          lent c.round_over-end.ensures.account));
    }
