use Rattle.std.proofs.Common.{List, ℕ, length, ap, ◌∙◌}
use Rattle.site_answers.specs.Losses.{dark_of_many}
use Rattle.what_if.specs.Placed.{bare_plan}
use Rattle.what_if.specs.Plans.{planned}
use Rattle.what_if.specs.declared.plan.Plan.{Plan}
use Rattle.loss_cases.specs.Cases.{case_from}
use Rattle.loss_cases.proofs.cases.case_of.Goals as goal

pub returns : goal.returns
returns c =
    let site = c.args.question.now.base.site.now in
    let loss = c.args.loss.now in
    c.in_ok-case.ensures
    ∙ ap (λ (p : Plan). case_from loss p (length c.as_slice.result.now))
    (c.in_ok-plan.ensures ∙ ap (λ (lost : List (List ℕ)). bare_plan (planned site lost)) c.items-lost.ensures)
    ∙ ap (λ (names : List (List ℕ)). case_from loss (planned site loss.cells) (length names))
    (c.as_slice.ensures.value ∙ c.in_ok-dark.ensures ∙ ap (dark_of_many site) c.items-lost.ensures)
