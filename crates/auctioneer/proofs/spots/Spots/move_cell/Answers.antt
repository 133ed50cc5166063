use Rattle.std.proofs.Common.{get_or, ◌≡◌, ◌≢◌, refl, sym, ap, subst, ◌∙◌, arith, true, false}
use Rattle.std.specs.BTreeSet.{BTreeSet, contains}
use Rattle.std.specs.Vec.{with_item}
use Rattle.auctioneer.specs.Spots.{spot_order, IsOrderOf}
use Rattle.auctioneer.specs.declared.spots.Spot.{Spot}
use Rattle.auctioneer.proofs.SpotLists.{IsRanking-moved}
use Rattle.auctioneer.proofs.SpotOrders.{AreCellsOf, IsOrderOf-moved, left_out_before}
use Rattle.auctioneer.proofs.spots.Spots.move_cell.Goals as goal

pub returns-in-Ok-clause-ranking : goal.returns-in-Ok-clause-ranking
returns-in-Ok-clause-ranking c = λ job groups stands one h.
    let old = c.args.self.now in
    let all = old.all.items in
    let at = c.args.at in
    let before : Spot = c.index.result.now in
    let after : Spot = c.args.after in
    let cells : AreCellsOf all = λ k p below. (h.spots.each k p (omega (arith, h.spots.all))).cell in
    let cell : after.cell ≡ before.cell = one.cell ∙ sym (ap
    (λ (x : Spot). x.cell) c.index.ensures ∙ cells at before c.requires.inside) in
    let there : contains spot_order old.order before ≡ true = sym c.contains-2.ensures ∙ c.if-not-contains.false in
    let other : before ≢ after = λ same.
    let yes : contains spot_order old.order after ≡ true =
    subst (λ (x : Spot). contains spot_order old.order x ≡ true) same there in
    let no : contains spot_order old.order after ≡ false = sym c.contains.ensures ∙ c.if-contains.false in
    absurd cc in
    let new = c.remove.new.self in
    let updates = c.in-Ok.ensures.updates.0 in
    let removes = c.remove.ensures.updates.0 in
    IsRanking-moved job groups stands old (record { all = with_item old.all at after; order = new; need = old.need }) at
    after c.requires.inside one h refl refl
    (IsOrderOf-moved old.order c.insert.new.self new all at before after c.requires.inside cells c.index.ensures cell
    other updates removes h.order)
    (left_out_before old.order c.insert.new.self new all at before after c.requires.inside cells c.index.ensures cell
    other updates removes h.order)

pub returns-in-Err-clause-ranking : goal.returns-in-Err-clause-ranking
returns-in-Err-clause-ranking c = λ job groups stands one h.
    let same : c.insert.new.self ≡ c.args.self.now.order = λ i. record { keys = c.in-Err.ensures.err i } in
    record {
      spots = h.spots;
      order = subst (λ (o : BTreeSet Spot). IsOrderOf o c.args.self.now.all.items)
          (sym same) h.order;
      left_out = λ k s p below out.
          h.left_out k s p below
          (ap (λ (o : BTreeSet Spot). contains spot_order o (get_or c.args.self.now.all.items k p)) (sym same)
          ∙ out);
    }
