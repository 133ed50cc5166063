use Rattle.headroom_tables.specs.FitTables.{fit_counts}
use Rattle.headroom_tables.proofs.fit.add_counts.Goals as goal

pub returns : goal.returns
unfolding fit_counts
returns c = rw (← c.from.ensures, ← c.len.ensures, ← c.items.ensures) c.add_head.ensures
