use Rattle.std.proofs.Common.{◌∙◌, ap, List, [], Option}
use Rattle.std.specs.Option.{unwrap_or}
use Rattle.cell_records.specs.declared.job.Job.{Job}
use Rattle.converge_round.proofs.cell_jobs.CellJobs.on.Goals as goal

pub returns-in-None : goal.returns-in-None
returns-in-None c rows list is =
    ap (λ (o : Option (List Job)). unwrap_or o []) c.in-None.ensures.value ∙ is.each c.args.cell.now

pub returns-in-Some : goal.returns-in-Some
returns-in-Some c rows list is =
    c.items.ensures ∙ ap (λ (o : Option (List Job)). unwrap_or o []) c.in-Some.ensures.value ∙ is.each c.args.cell.now
