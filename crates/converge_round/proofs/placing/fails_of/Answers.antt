use Rattle.std.proofs.Common.{◌∙◌, ap, [], ◌++◌, Option}
use Rattle.std.specs.Option.{option_to_list}
use Rattle.bbs_model.specs.declared.command.Command.{Command}
use Rattle.converge_round.specs.Places.{fail_of}
use Rattle.converge_round.proofs.Lists.{kept_more}
use Rattle.converge_round.proofs.placing.fails_of.Goals as goal

pub loop-job-preserved : goal.loop-job-preserved
loop-job-preserved c =
    kept_more (fail_of c.args.rows.now c.args.now) c.args.jobs.now c.loop-job.job-index c.job-item.result []
    c.loop-job.fails _ c.loop-job-test.true c.job-item.is c.loop-job.invariant
    (c.in_ok-add.ensures ∙ ap (λ (o : Option Command). c.loop-job.fails ++ option_to_list o) c.fail_of.ensures)
