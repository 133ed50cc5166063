use Rattle.std.proofs.Common.{◌≡◌, [], ◌++◌, take}
use Rattle.std.specs.List.{filter_map}
use Rattle.converge_round.specs.Places.{without_room}
use Rattle.converge_round.proofs.placing.unplaced.Given as goal

abbrev pub invariant-loop-placement : goal.invariant-loop-placement
invariant-loop-placement l = l.jobs ≡ [] ++ filter_map (without_room) (take l.placement-index l.placements)
