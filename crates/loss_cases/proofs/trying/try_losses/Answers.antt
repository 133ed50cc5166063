use Rattle.std.proofs.Common.{◌++◌, map, ap, ◌∙◌}
use Rattle.what_if.specs.declared.site.Site.{Site}
use Rattle.loss_cases.specs.Cases.{case_of, losses_of}
use Rattle.loss_cases.proofs.trying.try_losses.Goals as goal

pub returns : goal.returns
returns c =
    c.in_ok-try_asked.ensures
    ∙ ap (λ (site : Site). c.args.cases.now.items ++ map (case_of site)
    (losses_of site c.args.of)) c.in_ok-question.ensures.site
