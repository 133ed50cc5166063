use Rattle.std.proofs.Common.{◌∙◌}
use Rattle.site_answers.proofs.Answered.{whole_loss}
use Rattle.site_answers.proofs.losing.lose_in.Goals as goal

pub returns : goal.returns
returns c =
    let scene = c.args.scene.now in
    let plan = c.in_ok-plan.plan in
    let parts = c.in_ok-parts.parts in
    c.lost_from-lost.ensures
    ∙ whole_loss scene.site.now scene.lost.now c.requires.site plan c.in_ok-plan.ensures parts c.in_ok-parts.ensures
