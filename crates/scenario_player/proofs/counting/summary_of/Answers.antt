use Rattle.std.proofs.Common.{◌≤◌, length, subst, sym}
use Rattle.scenario_player.proofs.DoubtCounts.{few_doubts}
use Rattle.scenario_player.proofs.counting.summary_of.Goals as goal

pub overflow_sub-result : goal.overflow_sub-result
overflow_sub-result g c = subst (λ n. n ≤ length c.log-log.result.now) (sym c.doubts_in-doubts.ensures)
    (few_doubts c.log-log.result.now)
