use Rattle.std.proofs.Common.{ap, ◌∙◌}
use Rattle.what_if.specs.declared.site.Site.{Site}
use Rattle.loss_cases.specs.Turns.{turns_in}
use Rattle.loss_cases.proofs.turns.all_turns.Goals as goal

pub returns : goal.returns
returns c =
    c.in_ok-turns.ensures ∙ ap (λ (site : Site). turns_in site c.args.cells.now) c.in_ok-base.ensures.site
