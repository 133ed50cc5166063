use Rattle.std.proofs.Common.{ap, ◌∙◌}
use Rattle.headroom_print.specs.Worst.{worst}
use Rattle.headroom_answers.specs.Texts.{text_in, text_of, verdict_of}
use Rattle.headroom_answers.specs.declared.told.Told.{Told}
use Rattle.headroom_answers.proofs.planner.SitePlannerPlanner.plan.Goals as goal

pub returns-clause-text : goal.returns-clause-text
unfolding text_of
returns-clause-text c =
    c.in_ok-text.ensures
    ∙ ap (text_in c.args.asked c.args.dump.now.counts) c.in_ok-told.ensures

pub returns-clause-verdict : goal.returns-clause-verdict
unfolding verdict_of
returns-clause-verdict c =
    c.worst-verdict.ensures
    ∙ ap worst (c.items.ensures ∙ ap (λ (t : Told). t.found) c.in_ok-told.ensures)
