use Rattle.std.proofs.Common.{◌≡◌, ◌*◌, take, filter}
use Rattle.room_facts.specs.Lacks.{has_tag}
use Rattle.room_facts.specs.Rooms.{amounts_of, free_in_all, AreUpTo}
use Rattle.room_facts.proofs.sums.free_in_all.Given as goal

abbrev pub invariant-loop-stand : goal.invariant-loop-stand
invariant-loop-stand l = record {
  so_far : amounts_of l.free ≡ free_in_all (filter (has_tag l.tag) (take l.stand-index l.stands));
  small : AreUpTo (4294967295 * l.stand-index) l.free;
}
