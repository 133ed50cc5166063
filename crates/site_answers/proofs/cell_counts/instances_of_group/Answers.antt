use Rattle.std.proofs.Common.{cond, List, length, ap, ◌∙◌}
use Rattle.std.specs.List.{sum_by}
use Rattle.cell_records.specs.declared.answer.Answer.{Answer}
use Rattle.site_answers.proofs.Counting.{instances_in_group}
use Rattle.site_spread.specs.Groups.{is_in}
use Rattle.what_if.specs.Stays.{stays_on}
use Rattle.site_answers.proofs.cell_counts.instances_of_group.Goals as goal

pub returns : goal.returns
returns c =
    let g = c.args.group.now in
    c.count_all.ensures
    ∙ ap (λ (cs : List Answer). sum_by (λ (a : Answer). cond (is_in g a.zone a.tag) (length (stays_on a)) 0) cs)
    c.items.ensures
    ∙ instances_in_group c.args.site.now g
