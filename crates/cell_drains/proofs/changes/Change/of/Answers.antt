use Rattle.std.proofs.Common.{List, ℕ, ap, ◌∙◌}
use Rattle.std.specs.List.{filter_map}
use Rattle.cell_records.specs.declared.job.Job.{Job}
use Rattle.what_if.specs.Stays.{is_lost}
use Rattle.cell_drains.specs.Changes.{task_left}
use Rattle.cell_drains.specs.Steps.{jobs_on}
use Rattle.cell_drains.proofs.Changing.{left-from_names}
use Rattle.cell_drains.proofs.changes.Change.of.Goals as goal

pub returns : goal.returns
returns c = record {
  gone = c.in_ok-gone.ensures;
  placed = λ cell.
      c.in_ok-placed.ensures cell
      ∙ ap (λ (js : List Job). jobs_on cell js c.items-2.result.now) c.items.ensures
      ∙ ap (jobs_on cell c.args.plan.now.jobs) c.items-2.ensures;
  left = λ name.
      c.in_ok-left.ensures name
      ∙ ap (λ (ns : List (List ℕ)). is_lost ns name) (c.deref.ensures.value ∙ c.in_ok-names.ensures ∙ ap
      (filter_map task_left) c.items-3.ensures)
      ∙ left-from_names name c.args.plan.now.placements;
}
