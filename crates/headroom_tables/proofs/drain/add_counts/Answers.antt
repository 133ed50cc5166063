use Rattle.headroom_tables.specs.DrainTables.{drain_counts}
use Rattle.headroom_tables.proofs.drain.add_counts.Goals as goal

pub returns : goal.returns
unfolding drain_counts
returns c = rw (← c.from.ensures, ← c.len.ensures) c.add_head.ensures
