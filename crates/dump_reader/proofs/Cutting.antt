-- Where the first line of a text ends.
use Rattle.std.proofs.Common.{◌≡◌, ℕ, suc, ◌+◌, ◌-◌, ◌<◌, ◌≤◌, Bool, true, false, cond, not, if◌then◌else◌, List, [], ◌∷◌, length, take, drop, refl, arith, position, Some, None, ltb, subst}
use Rattle.std.proofs.lemmas.Bool.{ltb-true, ltb-false}
use Rattle.std.proofs.lemmas.Option.{cond_some}
use Rattle.std.proofs.lemmas.List.{take_rest}
use Rattle.std.specs.List.{position_or_len}
use Rattle.dump_reader.specs.TextLines.{is_newline, lines_of, onto_first}

-- a line goes on with a byte that is no newline
cut-step : (b : Bool) (byte n : ℕ) (bytes : List ℕ) → (n < length bytes
    → lines_of bytes ≡ take n bytes ∷ lines_of (drop (n + 1) bytes)) → cond (not b) (1 + n) 0 < length (byte ∷ bytes)
    → (if b then [] ∷ lines_of bytes else onto_first byte (lines_of bytes))
    ≡ take (cond (not b) (1 + n) 0) (byte ∷ bytes) ∷ lines_of (drop (cond (not b) (1 + n) 0 + 1) (byte ∷ bytes))
cut-step true byte n bytes before h = refl
cut-step false byte n bytes before h =
    let one : 1 + n ≡ suc n = omega arith in
    let two : 1 + n + 1 ≡ suc (n + 1) = omega arith in
    rw (two, one, before (omega arith)) refl

-- a text with a newline is its first line and the lines behind
pub lines_of-cut : (bytes : List ℕ) → position_or_len is_newline bytes < length bytes
    → lines_of bytes ≡ take (position_or_len is_newline bytes) bytes
    ∷ lines_of (drop (position_or_len is_newline bytes + 1) bytes)
lines_of-cut [] h = absurd (omega arith)
lines_of-cut (byte ∷ bytes) h = cut-step (is_newline byte) byte (position_or_len is_newline bytes) bytes
    (lines_of-cut bytes) h

-- a byte that is no newline, before a text without one
whole-step : (b : Bool) (byte n : ℕ) (bytes : List ℕ) →
    (length bytes ≤ n → onto_first byte (lines_of bytes) ≡ (byte ∷ bytes) ∷ [])
    → length (byte ∷ bytes) ≤ cond (not b) (1 + n) 0 → (if b then []
    ∷ lines_of bytes else onto_first byte (lines_of bytes)) ≡ (byte ∷ bytes) ∷ []
whole-step true byte n bytes before h = absurd (omega arith)
whole-step false byte n bytes before h = before (omega arith)

-- a byte before a text without a newline
pub onto_first-whole : (byte : ℕ) (bytes : List ℕ) → length bytes ≤ position_or_len is_newline bytes
    → onto_first byte (lines_of bytes) ≡ (byte ∷ bytes) ∷ []
onto_first-whole first [] h = refl
onto_first-whole first (byte ∷ bytes) h =
    let here = whole-step (is_newline byte) byte (position_or_len is_newline bytes) bytes
    (onto_first-whole byte bytes) h in
    rw here refl

-- a text without a newline is one line
pub lines_of-whole : (bytes : List ℕ) → 0 < length bytes → length bytes ≤ position_or_len is_newline bytes
    → lines_of bytes ≡ bytes ∷ []
lines_of-whole [] some h = absurd (omega arith)
lines_of-whole (byte ∷ bytes) some h = whole-step (is_newline byte) byte (position_or_len is_newline bytes) bytes
    (onto_first-whole byte bytes) h

-- the first newline is where the first line ends
pub lines_of-at : (bytes : List ℕ) (at : ℕ) → position is_newline bytes ≡ Some at
    → lines_of bytes ≡ take at bytes ∷ lines_of (take (length bytes - (at + 1)) (drop (at + 1) bytes))
lines_of-at bytes at found =
    let here = cond_some (ltb (position_or_len is_newline bytes) (length bytes))
    (position_or_len is_newline bytes) at found in
    let cut = lines_of-cut bytes (ltb-true (position_or_len is_newline bytes) (length bytes) here.0) in
    let P : ℕ → Type 0 = λ n. lines_of bytes ≡ take n bytes ∷ lines_of (drop (n + 1) bytes) in
    rw take_rest (subst P here.1 cut)

-- a choice that gives nothing
fails_none : (b : Bool) (n : ℕ) → cond b (Some n) None ≡ None → b ≡ false
fails_none true n missing = cc
fails_none false n missing = refl

-- where there is no newline
pub none_before : (bytes : List ℕ) → position is_newline bytes ≡ None → length bytes ≤ position_or_len is_newline bytes
none_before bytes missing = ltb-false (position_or_len is_newline bytes) (length bytes)
    (fails_none (ltb (position_or_len is_newline bytes) (length bytes)) (position_or_len is_newline bytes) missing)
