use Rattle.std.specs.HashMap.{get}
use Rattle.cell_drains.specs.Moves.{as_counted, same_counted}
use Rattle.cell_drains.proofs.Times.{counted_more}
use Rattle.cell_drains.proofs.moves.count_one.Goals as goal

pub returns : goal.returns
returns c = λ other.
    counted_more (get same_counted c.args.times.now) (get same_counted c.insert.new.self) c.args.job.now other
    c.times_in-count.result c.as_counted-key.result
    c.times_in-count.ensures c.as_counted-key.ensures (c.in_ok-insert.ensures.updates.0 (as_counted other))
