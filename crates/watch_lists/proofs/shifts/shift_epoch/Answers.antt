use Rattle.std.proofs.Common.{Some, sym, ap, subst, ◌∙◌}
use Rattle.work_causes.specs.contracts.cause.CausePartialEq.TheImpl.{eq-value}
use Rattle.watch_lists.specs.Shifting.{IsShiftedEpoch}
use Rattle.watch_lists.proofs.Shifting.{timed_alike}
use Rattle.watch_lists.proofs.shifts.shift_epoch.Goals as goal

pub returns-in-None-clause-timed : goal.returns-in-None-clause-timed
returns-in-None-clause-timed g c u v shifted timed =
    timed_alike u v (subst (λ of. IsShiftedEpoch c.args.cell.now of c.args.before c.args.after u v) c.in-None.is shifted)
    eq-value.it g.K.PartialEq.eq c.args.watched.now.watch timed

pub returns-in-Some-clause-timed : goal.returns-in-Some-clause-timed
returns-in-Some-clause-timed g c u v shifted timed =
    let here = subst (λ of. IsShiftedEpoch c.args.cell.now of c.args.before c.args.after u v) c.in-Some.is shifted in
    c.shift.ensures.timed u v here.0 (here.1 ∙ ap Some (sym c.end_under-new.ensures)) timed
