-- How much is left to do: less in each part than in the whole.
use Rattle.std.proofs.Common.{◌+◌, ◌-◌, ◌*◌, length}
use Rattle.busy_threads.proofs.forks.+halves.Given as goal

abbrev pub decreases-each_from : goal.decreases-each_from
decreases-each_from g l = 4 * length l.part.now

abbrev pub decreases-both_at_once : goal.decreases-both_at_once
decreases-both_at_once g l = 4 * (length l.front.now + length l.back.now) - 1

abbrev pub decreases-both_at_once-first : goal.decreases-both_at_once-first
decreases-both_at_once-first g l = 4 * length l.front.now + 1

abbrev pub decreases-both_at_once-second : goal.decreases-both_at_once-second
decreases-both_at_once-second g l = 4 * length l.back.now + 1
