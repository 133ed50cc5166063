use Rattle.std.proofs.Common.{ap, ◌∙◌}
use Rattle.what_if.specs.Plans.{planned}
use Rattle.cell_drains.proofs.Courses.{few_planned}
use Rattle.cell_drains.proofs.drains.plan_batch.Goals as goal

pub returns-clause-value : goal.returns-clause-value
returns-clause-value c = c.in_ok-plan.ensures ∙ ap (planned c.args.site.now) c.items.ensures

pub returns-clause-few : goal.returns-clause-few
returns-clause-few c =
    few_planned c.args.site.now c.items.result.now c.requires c.in_ok-plan.plan c.in_ok-plan.ensures
