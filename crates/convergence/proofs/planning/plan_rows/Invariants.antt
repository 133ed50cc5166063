use Rattle.std.proofs.Common.{◌≡◌, ◌++◌, map, take}
use Rattle.std.specs.List.{filter_map}
use Rattle.bbs_model.specs.Work.{at}
use Rattle.convergence.specs.Plans.{actual_plan}
use Rattle.convergence.proofs.planning.plan_rows.Given as goal

abbrev pub invariant-loop-row : goal.invariant-loop-row
invariant-loop-row l = l.asked ≡ l.fn.asked ++ map (at l.now)
    (filter_map (actual_plan l.answers) (take l.row-index l.rows))
