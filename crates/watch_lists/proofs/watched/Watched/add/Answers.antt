use Rattle.work_causes.specs.Causes.{until_of}
use Rattle.watch_lists.specs.Watched.{ends_in}
use Rattle.watch_lists.proofs.watched.Watched.add.Goals as goal

pub returns-clause-timed : goal.returns-clause-timed
returns-clause-timed g c timed =
    c.renew.ensures.timed (c.in_ok-reserve.ensures.timed (until_of (ends_in c.args.leases.now)) timed)
