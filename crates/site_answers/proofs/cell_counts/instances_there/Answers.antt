use Rattle.std.proofs.Common.{List, length, ap, ◌∙◌}
use Rattle.std.specs.List.{sum_by}
use Rattle.cell_records.specs.declared.answer.Answer.{Answer}
use Rattle.site_answers.proofs.Counting.{all_instances}
use Rattle.what_if.specs.Stays.{stays_on}
use Rattle.site_answers.proofs.cell_counts.instances_there.Goals as goal

pub returns : goal.returns
returns c =
    c.count_all.ensures
    ∙ ap (λ (cs : List Answer). sum_by (λ (a : Answer). length (stays_on a)) cs) c.items.ensures
    ∙ all_instances c.args.site.now.cells
