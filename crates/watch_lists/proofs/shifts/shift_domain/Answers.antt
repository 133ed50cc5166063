use Rattle.std.proofs.Common.{sym, ◌∙◌}
use Rattle.work_causes.specs.Causes.{until_of}
use Rattle.watch_lists.proofs.Shifting.{domain_end, domain_others}
use Rattle.watch_lists.proofs.shifts.shift_domain.Goals as goal

pub returns-clause-timed : goal.returns-clause-timed
returns-clause-timed g c e e2 new timed =
    c.shift.ensures.timed (until_of e) (until_of e2) (domain_others c.args.name.now c.args.after e e2 new)
    (domain_end c.args.name.now c.args.after e e2 new ∙ sym c.unwrap_or-2.ensures) timed
