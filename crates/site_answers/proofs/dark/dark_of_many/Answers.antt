use Rattle.std.proofs.Common.{filter, ap, ◌∙◌}
use Rattle.site_answers.specs.Losses.{is_of_many}
use Rattle.site_answers.proofs.dark.dark_of_many.Goals as goal

pub returns : goal.returns
returns c =
    c.in_ok-many.ensures
    ∙ ap (filter (is_of_many c.args.scene.now.site.now.wanted)) (c.deref.ensures.value ∙ c.in_ok-dark.ensures)
