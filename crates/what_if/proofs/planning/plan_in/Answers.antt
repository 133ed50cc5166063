use Rattle.std.proofs.Common.{List, [], ap, subst, sym, ◌∙◌}
use Rattle.std.specs.List.Sorted.{IsPermutation}
use Rattle.std.proofs.lemmas.List.Sorted.{IsPermutation-refl}
use Rattle.cell_records.specs.declared.answer.Answer.{Answer}
use Rattle.cell_records.specs.declared.job.Job.{Job}
use Rattle.what_if.specs.Placed.{planned_on}
use Rattle.what_if.specs.Stays.{open_cells}
use Rattle.what_if.specs.Waiting.{does_wait, waits}
use Rattle.what_if.proofs.Holding.{waits-by_holders}
use Rattle.what_if.proofs.Parts.{plan_of_loss}
use Rattle.what_if.proofs.planning.plan_in.Goals as goal

pub returns : goal.returns
returns c =
    let site = c.args.scene.now.site.now in
    let lost = c.args.scene.now.lost.now in
    c.in_ok-plan.ensures
    ∙ ap (λ (cs : List Answer). planned_on c.args.scene.now.before.now cs c.deref-2.result.now)
    (c.deref.ensures.value ∙ c.in_ok-cells.ensures.value)
    ∙ ap (planned_on c.args.scene.now.before.now (open_cells site lost))
    (c.deref-2.ensures.value ∙ c.in_ok-waiting.ensures.value
    ∙ waits-by_holders site lost c.args.scene.now.after.now c.requires.scene.after)
    ∙ plan_of_loss site lost c.args.scene.now.before.now c.requires.scene.before (waits site lost)
    (IsPermutation-refl (waits site lost)) (c.requires.site.jobs (does_wait site lost))
