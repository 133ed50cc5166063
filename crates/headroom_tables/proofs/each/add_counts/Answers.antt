use Rattle.headroom_tables.specs.EachTable.{each_counts}
use Rattle.headroom_tables.proofs.each.add_counts.Goals as goal

pub returns : goal.returns
unfolding each_counts
returns c = rw (← c.each_word.ensures, ← c.tried.ensures) c.add_head.ensures
