use Rattle.std.proofs.Common.{◌≡◌, ◌+◌, ◌++◌, ◌∷◌, [], List, take, refl, sym, ap, subst, ◌∙◌, take_all, arith}
use Rattle.std.proofs.lemmas.List.{take_more, length-take-le}
use Rattle.auctioneer.specs.Spots.{AreFirstSpots}
use Rattle.auctioneer.specs.declared.groups.Group.{Group}
use Rattle.auctioneer.specs.declared.spots.Spot.{Spot}
use Rattle.auctioneer.specs.declared.stand.Stand.{Stand}
use Rattle.auctioneer.proofs.SpotLists.{AreFirstSpots-nil, AreFirstSpots-push}
use Rattle.auctioneer.proofs.spots.spots_of.Goals as goal

pub loop-cell-init : goal.loop-cell-init
loop-cell-init c =
    subst (λ (gs : List Group). AreFirstSpots gs [] c.new-spots.result.items) (sym c.new-groups.ensures.items)
    (subst (AreFirstSpots [] []) (sym c.new-spots.ensures.items) AreFirstSpots-nil)

pub loop-cell-preserved : goal.loop-cell-preserved
loop-cell-preserved c =
    let stands = c.args.stands.now in
    let i = c.loop-cell.cell in
    let s = c.index-stands-cell.result in
    let spot : Spot = record {
      group = c.in_ok-group.group;
      in_zone = 0;
      on_cell = 0;
      load =
          c.load_of-load.result;
      cell = i;
    } in
    let first : take (i + 1) stands ≡ take i stands ++ s ∷ [] =
    take_more stands i s c.loop-cell-test.true ∙ ap (λ (x : Stand). take i stands ++ x ∷ [])
    (sym c.index-stands-cell.is) in
    let at = length-take-le i stands (omega arith) in
    subst (λ (ss : List Stand). AreFirstSpots c.group_of.new.groups.items ss c.push.new.self.items) (sym first)
    (subst (AreFirstSpots c.group_of.new.groups.items (take i stands ++ s ∷ [])) (sym c.in_ok-push.ensures.items)
    (AreFirstSpots-push c.loop-cell.groups.items c.group_of.new.groups.items
    (take i stands) c.loop-cell.spots.items s spot c.loop-cell.invariant c.group_of.ensures.others
    (omega (arith, at, c.loop-cell.invariant.all)) refl refl
    (omega (arith, c.load_of-load.ensures)) c.in_ok-group.ensures.number))

pub returns : goal.returns
returns c =
    subst (λ (ss : List Stand). AreFirstSpots c.loop-cell.groups.items ss c.loop-cell.spots.items)
    (take_all c.loop-cell.cell c.args.stands.now c.loop-cell-test.false) c.loop-cell.invariant
