use Rattle.std.proofs.Common.{◌≡◌, take}
use Rattle.room_facts.specs.Reasons.{reasons_of}
use Rattle.room_facts.proofs.Counts.{IsUpTo}
use Rattle.room_facts.proofs.reasons.reasons_of.Given as goal

abbrev pub invariant-loop-stand : goal.invariant-loop-stand
invariant-loop-stand l = record {
  so_far : l.so_far ≡ reasons_of l.job (take l.stand-index l.stands);
  small : IsUpTo l.stand-index l.so_far;
}
