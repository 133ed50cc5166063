use Rattle.headroom_tables.specs.ShowTables.{show_counts}
use Rattle.headroom_tables.proofs.show.add_counts.Goals as goal

pub returns : goal.returns
unfolding show_counts
returns c = rw (← c.len.ensures, ← c.len-2.ensures, ← c.len-3.ensures) c.add_head.ensures
