use Rattle.std.proofs.Common.{◌≡◌, take}
use Rattle.phase_text.specs.Sorting.{joined_parts}
use Rattle.phase_text.proofs.sorting.joined.Given as goal

abbrev pub invariant-loop-part : goal.invariant-loop-part
invariant-loop-part l = l.all.items ≡ joined_parts (take l.part-index l.parts)
