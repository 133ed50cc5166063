use Rattle.std.proofs.Common.{◌≡◌, Option, true, Some, set, get_or, sym, ap, subst, ◌∙◌}
use Rattle.auctioneer.specs.Asked.{AreStands}
use Rattle.auctioneer.specs.Auction.{stands_with}
use Rattle.auctioneer.specs.Stands.{can_take, with_job}
use Rattle.auctioneer.specs.declared.stand.Stand.{Stand}
use Rattle.std.proofs.lemmas.List.{get_or_read}
use Rattle.std.proofs.lemmas.List.Elements.{All-get_or}
use Rattle.auctioneer.specs.Asked.{IsSoundStand}
use Rattle.auctioneer.proofs.Placings.{placed-set, AreStands-set, IsSound-with_job, HasRoom-can_take}
use Rattle.auctioneer.proofs.placing.place_at.Goals as goal

pub returns-clause-stands : goal.returns-clause-stands
returns-clause-stands c =
    let items = c.args.stands.now.items in
    let job = c.args.job.now in
    let s = c.index_mut-stand.result.now in
    let took : c.take.new.self ≡ with_job job s = c.in_ok-take.ensures.ok in
    let is : s ≡ get_or items c.args.at s = c.index_mut-stand.ensures.value in
    ap (λ (x : Stand). set items c.args.at x) took
    ∙ placed-set job items c.args.at s c.requires.sound.rising c.requires.best.inside is
    ∙ ap (λ (o : Option Stand). stands_with job o items) (sym (c.requires.best.best s ∙ ap Some (sym is)))

pub returns-clause-sound : goal.returns-clause-sound
returns-clause-sound c =
    let items = c.args.stands.now.items in
    let job = c.args.job.now in
    let s = c.index_mut-stand.result.now in
    let took : c.take.new.self ≡ with_job job s = c.in_ok-take.ensures.ok in
    let is : s ≡ get_or items c.args.at s = c.index_mut-stand.ensures.value in
    let sound : IsSoundStand s = subst IsSoundStand (sym is)
    (All-get_or IsSoundStand items c.args.at s c.requires.best.inside c.requires.sound.each) in
    let room = HasRoom-can_take job s (subst (λ (x : Stand). can_take job x ≡ true) (sym is) (c.requires.best.fits s))
    in
    subst (λ (x : Stand). AreStands (set items c.args.at x)) (sym took)
    (AreStands-set items c.args.at (with_job job s)
    (ap (λ (x : Stand). x.cell) (get_or_read items c.args.at s c.requires.best.inside is (with_job job s)))
    (IsSound-with_job job s room sound) c.requires.sound)
