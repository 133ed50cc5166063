use Rattle.std.proofs.Common.{List, length, ap, ◌∙◌}
use Rattle.std.specs.List.{sum_by}
use Rattle.cell_records.specs.declared.answer.Answer.{Answer}
use Rattle.site_answers.proofs.Counting.{all_tasks}
use Rattle.site_answers.specs.Losses.{tasks_on}
use Rattle.site_answers.proofs.cell_counts.tasks_there.Goals as goal

pub returns : goal.returns
returns c =
    c.count_all.ensures
    ∙ ap (λ (cs : List Answer). sum_by (λ (a : Answer). length (tasks_on a)) cs) c.items.ensures
    ∙ all_tasks c.args.site.now.cells
