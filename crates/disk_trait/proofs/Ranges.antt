-- What a write does to the bytes of a list.
use Rattle.std.proofs.Common.{◌≡◌, ℕ, ◌+◌, ◌<◌, ◌≤◌, max, List, ◌++◌, length, take, drop, ◌∙◌, ap, arith, append_assoc, length-append, length-drop}
use Rattle.std.proofs.lemmas.List.{take_at, drop_at, length-take-le}
use Rattle.std.proofs.lemmas.List.Elements.{All-append, All-take, All-drop}
use Rattle.disk_trait.specs.Held.{Torn, AreBytes}
use Rattle.disk_trait.specs.Steps.{overwritten, range_of}

pub take_overwritten : (at : ℕ) (bytes old : List ℕ) → at ≤ length old
    → take at (overwritten at bytes old) ≡ take at old
take_overwritten at bytes old within =
    ap (λ (l : List ℕ). take at l) (append_assoc (take at old) bytes (drop (at + length bytes) old))
    ∙ take_at (take at old) (bytes ++ drop (at + length bytes) old) at (length-take-le at old within)

pub drop_overwritten : (at : ℕ) (bytes old : List ℕ) → at ≤ length old
    → drop (at + length bytes) (overwritten at bytes old) ≡ drop (at + length bytes) old
drop_overwritten at bytes old within =
    drop_at (take at old ++ bytes) (drop (at + length bytes) old) (at + length bytes)
    (omega (arith, length-append (take at old) bytes, length-take-le at old within))

pub length_overwritten : (at : ℕ) (bytes old : List ℕ) → at ≤ length old
    → length (overwritten at bytes old) ≡ max (length old) (at + length bytes)
length_overwritten at bytes old within =
    let whole = length-append (take at old ++ bytes) (drop (at + length bytes) old) in
    let front = length-append (take at old) bytes in
    omega (arith, whole, front, length-take-le at old within, length-drop (at + length bytes) old)

-- a write tears its range
pub torn_overwritten : (at : ℕ) (bytes old : List ℕ) → at ≤ length old
    → Torn (range_of at bytes) old (overwritten at bytes old)
torn_overwritten at bytes old within = record {
  before = take_overwritten at bytes old within;
  after = drop_overwritten at bytes old within;
  no_shorter = omega (arith, length_overwritten at bytes old within);
  no_longer = omega (arith, length_overwritten at bytes old within);
}

pub bytes_overwritten : (at : ℕ) (bytes old : List ℕ) → AreBytes bytes → AreBytes old
    → AreBytes (overwritten at bytes old)
bytes_overwritten at bytes old new_bytes old_bytes =
    All-append (λ b. b < 256) (take at old ++ bytes) (drop (at + length bytes) old)
    (All-append (λ b. b < 256) (take at old) bytes (All-take (λ b. b < 256) at old old_bytes) new_bytes)
    (All-drop (λ b. b < 256) (at + length bytes) old old_bytes)
