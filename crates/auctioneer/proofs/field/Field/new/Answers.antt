use Rattle.std.proofs.Common.{List, sym, subst, arith}
use Rattle.std.specs.BTreeSet.{IsFromIterResult}
use Rattle.auctioneer.specs.Refused.{AreRefused}
use Rattle.auctioneer.specs.Spots.{spot_order, AreFirstSpots}
use Rattle.auctioneer.specs.Tallies.{CountsAt}
use Rattle.auctioneer.specs.declared.spots.Spot.{Spot}
use Rattle.auctioneer.specs.declared.stand.Stand.{Stand}
use Rattle.auctioneer.specs.declared.tally.Place.TheVariants.{Zone, Cell}
use Rattle.auctioneer.proofs.SpotLists.{IsSpotOf-first}
use Rattle.auctioneer.proofs.Shortages.{asks_for_nothing}
use Rattle.auctioneer.proofs.SpotOrders.{AreAmong-itself, IsOrderOf-made, IsOrderOf-whole}
use Rattle.auctioneer.proofs.field.Field.new.Goals as goal

pub returns-clause-sound : goal.returns-clause-sound
returns-clause-sound c =
    let groups = c.in_ok-groups.groups.items in
    let all = c.in_ok-groups.all.items in
    let spots = subst (λ (ss : List Stand). AreFirstSpots groups ss all) c.as_slice.ensures.value c.in_ok-groups.ensures
    in
    let order = c.in_ok-order.order in
    let made : IsFromIterResult spot_order all order =
    subst (λ (ps : List Spot). IsFromIterResult spot_order ps order) c.as_slice-2.ensures.value
    c.in_ok-order.ensures in
    record {
      sound = c.in_ok-stands.ensures.sound;
      common = λ job. record {
        spots = IsSpotOf-first job groups c.in_ok-stands.stands.items all spots;
        order = IsOrderOf-made order all all (AreAmong-itself all spots.cell) made;
        left_out = λ k s p below out. let yes = IsOrderOf-whole order all made k p below in absurd cc;
      };
      whole = asks_for_nothing;
      lean = tt;
      own = tt;
      zones = subst (CountsAt Zone c.in_ok-in_zones.in_zones) c.as_slice-3.ensures.value c.in_ok-in_zones.ensures;
      cells = subst (CountsAt Cell c.in_ok-on_cells.on_cells) c.as_slice-4.ensures.value c.in_ok-on_cells.ensures;
      refused = subst (AreRefused c.in_ok-stands.stands.items) (sym c.new.ensures.items)
          (λ k d below. absurd (omega arith));
    }
