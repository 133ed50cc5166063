use Rattle.std.specs.Prelude.{length}
use Rattle.hostile_tests.proofs.reach.+is_reached_from.Given as goal

-- each call has one item less before it
abbrev pub decreases-is_reached_from : goal.decreases-is_reached_from
decreases-is_reached_from l = length l.log.now
