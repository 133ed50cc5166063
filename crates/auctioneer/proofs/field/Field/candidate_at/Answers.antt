use Rattle.std.proofs.Common.{◌≡◌, ℕ, true, Option, Some, None, unwrap_or, sym, ap, subst, ◌∙◌}
use Rattle.std.specs.Option.{IfSome}
use Rattle.auction_scoring.specs.Fits.{fits}
use Rattle.auction_scoring.specs.Score.{score_of}
use Rattle.auctioneer.specs.Stands.{can_take, in_zone}
use Rattle.auctioneer.specs.declared.stand.Stand.{Stand}
use Rattle.auctioneer.proofs.Offers.{IsFitting-counted}
use Rattle.auctioneer.proofs.field.Field.candidate_at.Goals as goal

-- a count that is known or looked up
counted : (floor : Option ℕ) (looked count : ℕ) → IfSome floor (λ n. n ≡ count) → looked ≡ count
    → unwrap_or floor looked ≡ count
counted None looked count known e = e
counted (Some n) looked count known e = known

pub returns-clause-fitting : goal.returns-clause-fitting
returns-clause-fitting c =
    let f = c.args.self.now in
    let items = f.stands.items in
    let job = c.args.job.now in
    let d : Stand = c.index-stand.result.now in
    let field = c.requires.field in
    let can : can_take job d ≡ true = ap (fits job) (sym c.view_of-view.ensures) ∙ sym c.fits.ensures ∙
    c.if-not-fits.false in
    let known : IfSome c.args.floor (λ n. n ≡ in_zone items job.job d.zone) =
    subst (λ (x : Stand). IfSome c.args.floor (λ n. n ≡ in_zone items job.job x.zone)) (sym c.index-stand.ensures)
    (c.requires.zone d) in
    IsFitting-counted items job c.args.at d c.zone_count.result c.count.result c.score.result field.sound
    c.requires.inside c.index-stand.ensures
    (c.zone_count.ensures ∙ counted c.args.floor _ (in_zone items job.job d.zone) known (field.zones job.job d.zone))
    (c.count.ensures ∙ field.cells job.job d.cell)
    (c.score.ensures ∙ (λ i. score_of (record (c.view_of-view.ensures i)
    { in_zone = c.zone_count.result; on_cell = c.count.result })))
    can
