use Rattle.std.proofs.Common.{◌+◌, ◌<◌, List, length, Option, sym, subst, arith}
use Rattle.std.specs.BTreeSet.{IsFromIterResult}
use Rattle.std.specs.Option.{IfSome}
use Rattle.auctioneer.specs.Needs.{LacksRoom, IsUpTo}
use Rattle.auctioneer.specs.Spots.{spot_order}
use Rattle.auctioneer.specs.declared.needs.Need.{Need}
use Rattle.auctioneer.specs.declared.spots.Spot.{Spot}
use Rattle.auctioneer.proofs.Shortages.{AreKept, AreKept-push, AreKept-more, IsRanking-kept}
use Rattle.auctioneer.proofs.spots.spots_with_room.Goals.{in-Some, in-None+in_ok-push-in-None}
use Rattle.auctioneer.proofs.spots.spots_with_room.Goals as goal

pub loop-at-preserved : goal.loop-at-preserved
loop-at-preserved c =
    let all = c.args.all.items in
    let stands = c.args.stands.now in
    let kept = c.loop-at.kept.items in
    let need : Need = c.loop-at.need in
    let at = c.loop-at.at in
    let x = c.index-stands-at.result in
    let inside : at < length all = omega (arith, c.loop-at-test.true, c.len-at-end.ensures) in
    elim c.match-raised.branch [
      | in-Some w ↦
          rw (w.kept-is, w.need-is)
          (AreKept-more all kept stands need at c.loop-at.invariant w.in-Some.more x
          (subst (λ (o : Option Need). IfSome o (IsUpTo need)) w.in-Some.is c.raised.ensures.more)
          (subst (λ (o : Option Need). IfSome o (λ more. LacksRoom more x)) w.in-Some.is c.raised.ensures.lacks)
          (omega (arith, inside, c.requires)) c.index-stands-at.is)
      | in-None+in_ok-push-in-None w ↦
          rw (w.kept-is, w.need-is)
          (subst (λ (ks : List Spot). AreKept all ks stands need (at + 1)) (sym w.in_ok-push-in-None.ensures.items)
          (AreKept-push all kept stands need at c.loop-at.invariant w.index.result.now inside w.index.ensures))
    ]

pub returns : goal.returns
returns c = λ other groups spots.
    let order = c.in_ok-order.order in
    IsRanking-kept other groups c.args.stands.now
    (record { all = c.args.all; order = order; need = c.loop-at.need }) c.loop-at.kept.items c.loop-at.at
    (omega (arith, c.loop-at-test.false, c.len-at-end.ensures)) c.loop-at.invariant
    (subst (λ (ps : List Spot). IsFromIterResult spot_order ps order) c.as_slice.ensures.value c.in_ok-order.ensures)
    spots
