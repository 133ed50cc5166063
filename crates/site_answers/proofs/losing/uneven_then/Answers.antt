use Rattle.std.proofs.Common.{List, ap, ◌∙◌}
use Rattle.auctioneer.specs.declared.stand.Stand.{Stand}
use Rattle.site_spread.specs.Spread.{uneven_in}
use Rattle.what_if.specs.Stays.{open_cells, stays_after}
use Rattle.what_if.specs.declared.plan.Plan.{Plan}
use Rattle.what_if.specs.declared.site.Stay.{Stay}
use Rattle.site_answers.proofs.losing.uneven_then.Goals as goal

pub returns : goal.returns
returns c =
    let site = c.args.scene.now.site.now in
    let lost = c.args.scene.now.lost.now in
    c.in_ok-uneven.ensures.value
    ∙ ap (λ (ss : List Stay). uneven_in site (open_cells site lost) ss)
    (c.deref.ensures.value ∙ c.in_ok-stays.ensures ∙ ap (λ (ss : List Stand). stays_after site lost ss)
    (c.stands-stands.ensures ∙ ap (λ (p : Plan). p.stands) c.requires))
