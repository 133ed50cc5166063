use Rattle.std.proofs.Common.{ap, ◌∙◌}
use Rattle.std.specs.BTreeSet.{contains}
use Rattle.container_store.specs.Entries.{entry_order}
use Rattle.container_store.proofs.JobSets.{undone}
use Rattle.container_store.proofs.containers.put_container.Goals as goal

pub returns-in-Err-clause-err : goal.returns-in-Err-clause-err
returns-in-Err-clause-err c = (
  c.in-Err.ensures.err,
  undone c.args.jobs.now c.insert.new.self c.remove.new.self c.job_entry-entry.result
      (ap (contains entry_order c.args.jobs.now) c.job_entry-entry.ensures ∙ c.requires)
      c.in_ok-insert.ensures.updates.0 c.remove.ensures.updates.0,
)
