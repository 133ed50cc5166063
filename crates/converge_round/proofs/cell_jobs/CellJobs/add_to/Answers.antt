use Rattle.std.proofs.Common.{◌∙◌, ap, cond, List, ◌++◌, Option, Some}
use Rattle.std.specs.BTreeMap.{get}
use Rattle.std.specs.Option.{option_to_list}
use Rattle.std.specs.Ordering.{is_eq}
use Rattle.cell_records.specs.declared.job.Job.{Job}
use Rattle.diego_names.specs.Order.{name_order}
use Rattle.converge_round.proofs.CellJobLaws.{kept-added}
use Rattle.converge_round.proofs.cell_jobs.CellJobs.add_to.Goals as goal

pub returns : goal.returns
returns c other =
    kept-added (get name_order c.insert.new.self) (get name_order c.args.self.now.lists) c.args.cell.now
    (option_to_list c.args.job) c.add.new.items
    (c.in_ok-add.ensures ∙ ap (λ (xs : List Job). xs ++ option_to_list c.args.job) c.take-jobs.ensures.jobs) other
    (c.in_ok-insert.ensures.updates.0 other
    ∙ ap (λ (o : Option (List Job)). cond (is_eq (name_order c.args.cell.now other)) (Some c.add.new.items) o)
    (c.take-jobs.ensures.others other))
