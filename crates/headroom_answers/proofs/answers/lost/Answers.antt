use Rattle.std.proofs.Common.{ℕ, List, ap, ◌∙◌}
use Rattle.headroom_answers.specs.Findings.{cells_lost}
use Rattle.site_answers.specs.Losses.{lost_of}
use Rattle.headroom_answers.proofs.answers.lost.Goals as goal

pub returns : goal.returns
returns c =
    let site = c.args.site.now in
    c.in_ok-done.ensures
    ∙ ap (lost_of site) (c.deref.ensures.value
    ∙ (c.in_ok-gone.ensures
    ∙ (ap (λ (cells : List (List ℕ)). cells_lost site cells c.items-2.result.now) c.items.ensures
    ∙ ap (cells_lost site c.args.cells.now) c.items-2.ensures)))
