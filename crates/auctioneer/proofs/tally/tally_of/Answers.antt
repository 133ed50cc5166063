use Rattle.std.proofs.Common.{◌+◌, ◌<◌, ◌^◌, length, subst, sym, arith}
use Rattle.auctioneer.specs.declared.stand.Stand.{Stand}
use Rattle.auctioneer.proofs.Counts.{count_at-few}
use Rattle.auctioneer.proofs.tally.tally_of.Goals as goal

pub add_stand-requires : goal.add_stand-requires
add_stand-requires c = λ job zone.
    let stands = c.args.stands.now in
    let i = c.loop-stand.stand-index in
    let s = c.stand-item.result in
    let few : length s.jobs + s.free.containers < 2 ^ 33 =
    subst (λ (x : Stand). length x.jobs + x.free.containers < 2 ^ 33) (sym c.stand-item.is)
    (c.requires.each i s c.loop-stand-test.true).few in
    omega (arith, c.loop-stand.invariant job zone, count_at-few c.args.place stands i job zone c.requires, few)
