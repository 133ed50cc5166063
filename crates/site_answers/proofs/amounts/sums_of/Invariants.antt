use Rattle.std.proofs.Common.{◌≡◌, ◌*◌, take}
use Rattle.room_facts.specs.Rooms.{AreUpTo}
use Rattle.site_answers.specs.Sums.{sums_of}
use Rattle.site_answers.proofs.amounts.sums_of.Given as goal

abbrev pub invariant-loop-more : goal.invariant-loop-more
invariant-loop-more l = record {
  so_far : l.sums ≡ sums_of (take l.more-index l.amounts);
  small : AreUpTo (4294967295 * l.more-index) l.sums;
}
