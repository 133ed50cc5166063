use Rattle.std.proofs.Common.{cond, List, length, ap, ◌∙◌}
use Rattle.std.specs.List.{sum_by}
use Rattle.cell_records.specs.declared.answer.Answer.{Answer}
use Rattle.site_answers.proofs.Counting.{all_tasks_lost}
use Rattle.site_answers.specs.Losses.{tasks_on}
use Rattle.what_if.specs.Stays.{is_lost}
use Rattle.site_answers.proofs.cell_counts.tasks_lost.Goals as goal

pub returns : goal.returns
returns c =
    let lost = c.args.lost.now in
    c.count_all.ensures
    ∙ ap (λ (cs : List Answer). sum_by (λ (a : Answer). cond (is_lost lost a.cell) (length (tasks_on a)) 0) cs)
    c.items.ensures
    ∙ all_tasks_lost c.args.site.now lost
