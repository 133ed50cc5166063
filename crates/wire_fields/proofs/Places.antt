-- Texts at places, one behind the other, and what is written there.
use Rattle.std.proofs.Common.{◌≡◌, ℕ, ◌+◌, ◌≤◌, List, ◌++◌, length, take, drop, refl, sym, ap, ◌∙◌, append_assoc, arith, inl, inr}
use Rattle.std.proofs.lemmas.Bool.{cases_lt}
use Rattle.std.proofs.lemmas.List.{take_at, drop_at, drop-drop, length-append, length-take-le, get_or-drop, get_or-take, get_or_past, length-take}
use Rattle.wire_fields.specs.Field.{written, PutsText}
use Rattle.wire_fields.specs.Laws.{IsBytes, TextStandsAt}

pub IsBytes-drop : (n : ℕ) (bytes : List ℕ) → IsBytes bytes → IsBytes (drop n bytes)
IsBytes-drop n bytes h i = rw get_or-drop (h (n + i))

pub IsBytes-take : (n : ℕ) (bytes : List ℕ) → IsBytes bytes → IsBytes (take n bytes)
IsBytes-take n bytes h i =
    elim (cases_lt i n) [
      | inl lt ↦ rw (get_or-take n bytes i 0 lt) (h i)
      | inr le ↦ rw (get_or_past (take n bytes) i 0 (omega (arith, length-take n bytes))) (omega arith)
    ]

-- two texts, one behind the other, are one
pub StandsAt-append : (bytes : List ℕ) (at : ℕ) (a b : List ℕ) → TextStandsAt bytes at a
    → TextStandsAt bytes (at + length a) b → TextStandsAt bytes at (a ++ b)
StandsAt-append bytes at a b first second =
    let rest-is : drop (at + length a) bytes ≡ first.rest =
    sym (drop-drop (length a) at bytes) ∙ ap (drop (length a)) first.parts ∙ drop_at a first.rest (length a) refl in
    record {
      rest = second.rest;
      parts = first.parts ∙ ap (λ (r : List ℕ). a ++ r) (sym rest-is ∙ second.parts) ∙ sym
          (append_assoc a b second.rest);
    }

-- the front of a text that stands there stands there
pub StandsAt-front : (bytes : List ℕ) (at : ℕ) (a b : List ℕ) → TextStandsAt bytes at (a ++ b) → TextStandsAt bytes at a
StandsAt-front bytes at a b both = record { rest = b ++ both.rest; parts = both.parts ∙ append_assoc a b both.rest }

-- the back of it stands behind the front
pub StandsAt-back : (bytes : List ℕ) (at : ℕ) (a b : List ℕ) → TextStandsAt bytes at (a ++ b)
    → TextStandsAt bytes (at + length a) b
StandsAt-back bytes at a b both =
    record {
      rest = both.rest;
      parts = sym (drop-drop (length a) at bytes) ∙ ap (drop (length a)) (both.parts ∙ append_assoc a b both.rest)
          ∙ drop_at a (b ++ both.rest) (length a) refl;
    }

-- what was written stands there
pub StandsAt-written : (out : List ℕ) (at : ℕ) (text : List ℕ) → at ≤ length out
    → TextStandsAt (written out at text) at text
unfolding written
StandsAt-written out at text fits = record {
  rest = drop (at + length text) out;
  parts = drop_at (take at out) (text ++ drop (at + length text) out) at (length-take-le at out fits);
}

-- two writes, one behind the other, leave what one leaves
written-then : (out mid new : List ℕ) (at after : ℕ) (a b : List ℕ) → mid ≡ written out at a → after ≡ at + length a
    → new ≡ written mid after b
    → at ≤ length out → new ≡ written out at (a ++ b)
unfolding written
written-then out mid new at after a b mid-is after-is new-is fits =
    let front : List ℕ = take at out ++ a in
    let len : length front ≡ at + length a = omega (arith, length-append (take at out) a, length-take-le at out fits) in
    let split : mid ≡ front ++ drop (at + length a) out =
    mid-is ∙ sym (append_assoc (take at out) a (drop (at + length a) out)) in
    let taken : take after mid ≡ front = ap (take after) split ∙ take_at front (drop (at + length a) out) after
    (omega (arith, len, after-is)) in
    let behind : drop after mid ≡ drop (at + length a) out =
    ap (drop after) split ∙ drop_at front (drop (at + length a) out) after (omega (arith, len, after-is)) in
    let dropped : drop (after + length b) mid ≡ drop (at + length (a ++ b)) out =
    sym (drop-drop (length b) after mid) ∙ ap (drop (length b)) behind ∙ drop-drop (length b) (at + length a) out
    ∙ ap (λ (n : ℕ). drop n out) (omega (arith, length-append a b)) in
    new-is ∙ ap (λ (t : List ℕ). t ++ (b ++ drop (after + length b) mid)) taken
    ∙ ap (λ (d : List ℕ). (take at out ++ a) ++ (b ++ d)) dropped
    ∙ append_assoc (take at out) a (b ++ drop (at + length (a ++ b)) out)
    ∙ ap (λ (t : List ℕ). take at out ++ t) (sym (append_assoc a b (drop (at + length (a ++ b)) out)))

-- two writes, one behind the other, are one
pub Puts-then : {old mid new : List ℕ} {at middle after : ℕ} {a b : List ℕ} → at ≤ length old
    → PutsText old at a mid middle → PutsText mid middle b new after
    → PutsText old at (a ++ b) new after
Puts-then {old} {mid} {new} {at} {middle} {after} {a} {b} fits first second = record {
  bytes = written-then old mid new at middle a b first.bytes first.place second.bytes fits;
  place = omega (arith, length-append a b, first.place, second.place);
}
