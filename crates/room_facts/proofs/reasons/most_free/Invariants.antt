use Rattle.std.proofs.Common.{◌≡◌, take}
use Rattle.room_facts.specs.Reasons.{most_free}
use Rattle.room_facts.proofs.reasons.most_free.Given as goal

abbrev pub invariant-loop-stand : goal.invariant-loop-stand
invariant-loop-stand l = l.most ≡ most_free l.tag (take l.stand-index l.stands)
