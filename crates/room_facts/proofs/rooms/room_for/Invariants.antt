use Rattle.std.proofs.Common.{◌≡◌, ◌+◌, ◌*◌, ◌≤◌, ◌^◌, take}
use Rattle.std.specs.List.{sum_by}
use Rattle.room_facts.specs.Rooms.{room_on}
use Rattle.room_facts.proofs.rooms.room_for.Given as goal

abbrev pub invariant-loop-stand : goal.invariant-loop-stand
invariant-loop-stand l = record {
  so_far : l.total ≡ sum_by (room_on l.size) (take l.stand-index l.stands);
  small : l.total + l.stand-index ≤ 2 ^ 32 * l.stand-index;
}
