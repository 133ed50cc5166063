use Rattle.std.proofs.Common.{◌≡◌, ◌*◌, ◌≤◌, ◌^◌, take}
use Rattle.std.specs.List.{sum_by}
use Rattle.auctioneer.specs.Stands.{held_in}
use Rattle.auctioneer.proofs.counting.in_zone.Given as goal

abbrev pub invariant-loop-stand : goal.invariant-loop-stand
invariant-loop-stand l = record {
  so_far : l.total ≡ sum_by (held_in l.job l.zone) (take l.stand-index l.stands);
  small : l.total ≤ 2 ^ 33 * l.stand-index;
}
