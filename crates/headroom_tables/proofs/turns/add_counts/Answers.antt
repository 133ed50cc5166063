use Rattle.headroom_tables.specs.TurnTables.{turns_counts}
use Rattle.headroom_tables.proofs.turns.add_counts.Goals as goal

pub returns : goal.returns
unfolding turns_counts
returns c = rw (← c.order_word.ensures, ← c.from.ensures) c.add_head.ensures
