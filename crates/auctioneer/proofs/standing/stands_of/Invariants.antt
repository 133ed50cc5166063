use Rattle.std.proofs.Common.{◌≡◌, map, take}
use Rattle.std.specs.List.{All}
use Rattle.auctioneer.specs.Asked.{IsSoundStand}
use Rattle.auctioneer.specs.Stands.{stand_of}
use Rattle.auctioneer.proofs.standing.stands_of.Given as goal

abbrev pub invariant-loop-answer : goal.invariant-loop-answer
invariant-loop-answer l = record {
  value : l.stands.items ≡ map stand_of (take l.answer-index l.answers);
  sound : All IsSoundStand l.stands.items;
}
