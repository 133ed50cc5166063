-- The bytes that were kept, and then those of the last piece.
use Rattle.std.proofs.Common.{arith, ◌≡◌, ◌+◌, length, length-take, ◌∙◌}
use Rattle.byte_ports.proofs.Moves.{lost_more}
use Rattle.byte_ports.proofs.reading.read_whole.Goals as goal

pub returns-then-count-limit-clause-too_long : goal.returns-then-count-limit-clause-too_long
returns-then-count-limit-clause-too_long g c = λ _.
    let (fits, taken, stood) = c.loop-bytes.invariant in
    let n = c.in_ok-count.count in
    let take = c.in_ok-count.ensures in
    let lost = lost_more _ _ _ _ c.take.new.room n take.bound.0 taken take.bytes.0 in
    let room = simp length-take at c.take.auto.room in
    let count : length c.loop-bytes.bytes.items + n ≡ c.args.limit + 1 =
    omega (arith, take.bound.0, room) in
    (lost.0, lost.1 ∙ count, lost.2)

pub returns-in_err-extend_from_slice-clause-within :
    goal.returns-in_err-extend_from_slice-clause-within
returns-in_err-extend_from_slice-clause-within g c = λ _.
    let (fits, taken, stood) = c.loop-bytes.invariant in
    let n = c.in_ok-count.count in
    let take = c.in_ok-count.ensures in
    let lost = lost_more _ _ _ _ c.take.new.room n take.bound.0 taken take.bytes.0 in
    (lost.0, omega (arith, lost.1), lost.2)
