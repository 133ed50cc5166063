use Rattle.std.proofs.Common.{◌∙◌, ap, [], ◌++◌, Option}
use Rattle.std.specs.Option.{option_to_list}
use Rattle.cell_records.specs.declared.job_name.JobName.{JobName}
use Rattle.converge_round.specs.Places.{without_room}
use Rattle.converge_round.proofs.Lists.{kept_more}
use Rattle.converge_round.proofs.placing.unplaced.Goals as goal

pub loop-placement-preserved : goal.loop-placement-preserved
loop-placement-preserved c =
    kept_more (without_room) c.args.placements.now c.loop-placement.placement-index c.placement-item.result []
    c.loop-placement.jobs _ c.loop-placement-test.true c.placement-item.is c.loop-placement.invariant
    (c.in_ok-add.ensures ∙ ap (λ (o : Option JobName). c.loop-placement.jobs ++ option_to_list o)
    c.without_room.ensures)
