use Rattle.std.proofs.Common.{◌≡◌, filter, take}
use Rattle.std.specs.List.{flat_map}
use Rattle.what_if.specs.Stays.{is_open, stays_on}
use Rattle.what_if.proofs.standing.stays.Given as goal

abbrev pub invariant-loop-answer : goal.invariant-loop-answer
invariant-loop-answer l = l.list.items ≡ flat_map stays_on
    (filter (is_open l.lost) (take l.answer-index l.answer-items))
