use Rattle.std.proofs.Common.{◌≡◌, ◌≤◌, true, [], is_some, sym, ap, subst, ◌∙◌, arith}
use Rattle.cell_records.specs.declared.job_name.JobName.TheVariants.{Task}
use Rattle.auctioneer.specs.Spots.{IsSpotOf}
use Rattle.auctioneer.specs.Stands.{held_of, in_zone}
use Rattle.auctioneer.specs.Tallies.{count_at}
use Rattle.auctioneer.specs.declared.spots.Spot.{Spot}
use Rattle.auctioneer.specs.declared.stand.Stand.{Stand}
use Rattle.auctioneer.specs.declared.tally.Place.TheVariants.{Cell}
use Rattle.auctioneer.proofs.Counts.{held-from_count}
use Rattle.auctioneer.proofs.SpotLists.{IsSpotOf-counted}
use Rattle.auctioneer.proofs.field.Field.spot_for.Goals.{then-is_some, else-is_some}
use Rattle.auctioneer.proofs.field.Field.spot_for.Goals as goal

pub index-requires : goal.index-requires
index-requires c = omega (arith, c.requires.inside, (c.requires.field.common (Task [])).spots.all)

pub index-requires-2 : goal.index-requires-2
index-requires-2 c =
    let f = c.args.self.now in
    let p : Spot = c.index.result.now in
    let here = subst (IsSpotOf (Task []) f.groups.items f.stands.items c.args.at) (sym c.index.ensures)
    ((c.requires.field.common (Task [])).spots.each c.args.at p c.requires.inside) in
    omega (arith, (here.group c.index-stand.result.now).inside)

pub returns : goal.returns
returns c =
    let f = c.args.self.now in
    let field = c.requires.field in
    let at = c.args.at in
    let job = c.args.job.now in
    let p : Spot = c.index.result.now in
    let stand : Stand = c.index-stand.result.now in
    let here : IsSpotOf (Task []) f.groups.items f.stands.items at p =
    subst (IsSpotOf (Task []) f.groups.items f.stands.items at) (sym c.index.ensures)
    ((field.common (Task [])).spots.each at p c.requires.inside) in
    let held : c.count.result ≡ held_of job stand =
    c.count.ensures ∙ field.cells job stand.cell ∙ ap (λ (x : Stand). count_at Cell f.stands.items job x.cell)
    c.index-stand.ensures
    ∙ held-from_count job f.stands.items at stand field.sound.rising c.requires.inside ∙ ap (held_of job)
    (sym c.index-stand.ensures) in
    let flat : is_some c.index-2.result.now.zone ≡ true → c.if-is_some.in_zone ≡ 0 =
    elim c.if-is_some.branch [
      | then-is_some w ↦ λ some. w.in_zone-is
      | else-is_some w ↦ λ some. let no = sym some ∙ sym c.is_some.ensures ∙ w.if-is_some.false in absurd cc
    ] in
    let upto : c.if-is_some.in_zone ≤ in_zone f.stands.items job stand.zone =
    elim c.if-is_some.branch [
      | then-is_some w ↦ omega (arith, w.in_zone-is)
      | else-is_some w ↦ omega (arith, w.in_zone-is, w.count-in_zone.ensures, field.zones job stand.zone)
    ] in
    IsSpotOf-counted job (Task []) f.groups.items f.stands.items at p stand c.index-2.result.now c.if-is_some.in_zone
    c.count.result c.load_of.result
    c.requires.inside c.index-stand.ensures here c.index-2.ensures flat upto held c.load_of.ensures
