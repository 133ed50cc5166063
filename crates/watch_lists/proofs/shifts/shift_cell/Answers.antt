-- First the term of the old lease, then that of the new one.
use Rattle.std.proofs.Common.{refl}
use Rattle.work_causes.specs.Causes.{until_of}
use Rattle.watch_lists.proofs.Shifting.{first_shift, mid_until, second_shift}
use Rattle.watch_lists.proofs.shifts.shift_cell.Goals as goal

pub returns-clause-timed : goal.returns-clause-timed
returns-clause-timed g c e e2 new timed =
    c.shift_epoch-2.ensures.timed (mid_until c.args.before e e2) (until_of e2)
    (second_shift c.args.cell.now c.args.before c.args.after e e2 new c.args.after refl)
    (c.shift_epoch.ensures.timed (until_of e) (mid_until c.args.before e e2)
    (first_shift c.args.cell.now c.args.before c.args.after e e2 new c.args.before) timed)
