use Rattle.std.proofs.Common.{◌∙◌, ap, ◌++◌, Option}
use Rattle.std.specs.Option.{option_to_list}
use Rattle.cell_records.specs.declared.job.Job.{Job}
use Rattle.converge_round.specs.Jobs.{row_job}
use Rattle.converge_round.proofs.Lists.{kept_more}
use Rattle.converge_round.proofs.jobs.add_instances.Goals as goal

pub loop-row-preserved : goal.loop-row-preserved
loop-row-preserved c =
    kept_more (row_job c.args.rows.now) c.args.actual.now c.loop-row.row-index c.row-item.result c.args.jobs.now
    c.loop-row.jobs _ c.loop-row-test.true c.row-item.is c.loop-row.invariant
    (c.in_ok-add.ensures ∙ ap (λ (o : Option Job). c.loop-row.jobs ++ option_to_list o) c.row_job.ensures)
