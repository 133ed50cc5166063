use Rattle.std.proofs.Common.{◌≡◌, take}
use Rattle.what_if.specs.Marks.{there_at}
use Rattle.what_if.proofs.wanting.instances_at.Given as goal

abbrev pub invariant-loop-at : goal.invariant-loop-at
invariant-loop-at l = l.list.items ≡ there_at l.marked.dump.now (take l.at-index l.places)
