use Rattle.std.proofs.Common.{◌∙◌}
use Rattle.site_answers.proofs.Counting.{instances_counted}
use Rattle.site_answers.proofs.cell_counts.instances_on.Goals as goal

pub returns : goal.returns
returns c = c.standing_on.ensures ∙ instances_counted c.args.answer.now
