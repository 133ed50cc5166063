-- A call with a lower number than one that was shown before is stale.
use Rattle.std.proofs.Common.{◌≡◌, ℕ, zero, suc, ◌<◌, ◌≤◌, List, [], ◌∷◌, slice_get, Some, subst, arith}
use Rattle.std.proofs.Math.Nat.{le-max_left, le-max_right}
use Rattle.fenced_board.specs.Laws.{FencedCall, HasShown, AreShown, IsStale, LowerNumbersAreStale}

module _ {D : Type 0} where
  -- neither the number of a call nor what was the greatest one before it is above the greatest one behind it
  reaches : (call : FencedCall D) → HasShown call → (call.old.fence.greatest ≤ call.new.fence.greatest)
      × (call.number ≤ call.new.fence.greatest)
  reaches call shown =
      let is = shown.shows.greatest in
      let left = le-max_left call.old.fence.greatest call.number in
      let right = le-max_right call.old.fence.greatest call.number in
      (omega (arith, is, left), omega (arith, is, right))

  -- the greatest number doesn't fall until a later call
  rises_until : (calls : List (FencedCall D)) (greatest : ℕ) → AreShown calls greatest → (j : ℕ) (later : FencedCall D)
      → slice_get calls j ≡ Some later
      → (greatest ≤ later.old.fence.greatest) × HasShown later
  rises_until [] greatest shown j later is = absurd cc
  rises_until (call ∷ calls) greatest shown zero later is =
      let same : call ≡ later = cc in
      let first = shown.0 in
      subst (λ (c : FencedCall D). (greatest ≤ c.old.fence.greatest) × HasShown c) same
      (omega (arith, first), shown.1.0)
  rises_until (call ∷ calls) greatest shown (suc j) later is =
      let first = shown.0 in
      let up = (reaches call shown.1.0).0 in
      let rest = rises_until calls call.new.fence.greatest shown.1.1 j later is in
      let more = rest.0 in
      (omega (arith, first, up, more), rest.1)

  is_stale : (call : FencedCall D) → HasShown call → call.number < call.old.fence.greatest → IsStale call
  is_stale call shown lower = record {
    greatest = call.old.fence.greatest;
    answer = shown.shows.stale.1 lower;
    idle = shown.idle lower;
  }

  pub lower_is_stale : LowerNumbersAreStale D
  lower_is_stale [] greatest shown i j earlier later at_i at_j before lower = absurd cc
  lower_is_stale (call ∷ calls) greatest shown i zero earlier later at_i at_j before lower =
      absurd (omega (arith, before))
  lower_is_stale (call ∷ calls) greatest shown zero (suc j) earlier later at_i at_j before lower =
      let same : call ≡ earlier = cc in
      let rest = rises_until calls call.new.fence.greatest shown.1.1 j later at_j in
      let number = (subst (λ (c : FencedCall D). (c.number ≤ call.new.fence.greatest)) same (reaches call shown.1.0).1)
      in
      let more = rest.0 in
      is_stale later rest.1 (omega (arith, number, more, lower))
  lower_is_stale (call ∷ calls) greatest shown (suc i) (suc j) earlier later at_i at_j before lower =
      lower_is_stale calls call.new.fence.greatest shown.1.1 i j earlier later at_i at_j (omega (arith, before)) lower
