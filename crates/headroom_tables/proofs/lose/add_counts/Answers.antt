use Rattle.headroom_tables.specs.LoseTables.{lose_counts}
use Rattle.headroom_tables.proofs.lose.add_counts.Goals as goal

pub returns : goal.returns
unfolding lose_counts
returns c = rw (← c.len.ensures) c.add_head.ensures
