use Rattle.std.proofs.Common.{◌∙◌}
use Rattle.site_answers.proofs.Answered.{whole_show}
use Rattle.site_answers.proofs.showing.show.Goals as goal

pub plan_in-requires-clause-scene : goal.plan_in-requires-clause-scene
plan_in-requires-clause-scene c = record { before = c.in_ok-holders.ensures; after = c.in_ok-holders.ensures }

pub returns : goal.returns
returns c =
    c.shown_from-shown.ensures
    ∙ whole_show c.args.site.now c.requires c.in_ok-plan.plan c.in_ok-plan.ensures c.in_ok-parts.parts
    c.in_ok-parts.ensures
