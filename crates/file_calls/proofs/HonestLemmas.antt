-- Which answers are believed.
use Rattle.std.specs.Prelude.{◌≢◌, nat_lt, nat_le, not, bytes_eq}
use Rattle.std.proofs.Common.{◌≡◌, inl, inr, ℕ, ◌-◌, ◌<◌, ◌≤◌, Bool, true, false, ◌&&◌, ◌||◌, List, [], length, take, drop, refl, ◌∙◌, ap, arith, eq-eqb, ne_eqb, length-take, length-drop}
use Rattle.std.proofs.lemmas.Bool.{cases_Bool, lt-ltb, le-leb, leb-true}
use Rattle.std.proofs.lemmas.Bool.Decides.{leb_tells}
use Rattle.std.proofs.lemmas.Slice.Eq.{bytes_eq-Decides}
use Rattle.file_calls.specs.Call.{Call, began, means, measured, read, written, named, flushed}
use Rattle.file_calls.specs.Files.{First, held_by}
use Rattle.file_calls.specs.Honest.{gives, agrees, is_honest}
use Rattle.file_calls.specs.Made.{refuses}
use Rattle.file_calls.specs.Laws.{Believes, Doubts}
use Rattle.file_calls.proofs.Records.{and_both}

believed_ok : (ok : Bool) (rest : Bool) → not ok ≡ true → (not ok || rest) ≡ true
believed_ok true rest is = absurd (cc)
believed_ok false rest is = refl

refusal_agrees : (first : First) (history : List Call) (call : Call) → refuses call ≡ true
    → agrees first call history ≡ true
refusal_agrees first history began is = refl
refusal_agrees first history (means area at len) is = refl
refusal_agrees first history (measured area ok count) is = believed_ok ok _ is
refusal_agrees first history (read area at ok bytes) is = believed_ok ok _ is
refusal_agrees first history (written area at ok bytes) is = refl
refusal_agrees first history (named area ok) is = believed_ok ok _ is
refusal_agrees first history (flushed area ok) is = believed_ok ok _ is

not_false : (b : Bool) → b ≡ false → not b ≡ true
not_false true is = absurd (cc)
not_false false is = refl

not_true : (b c : Bool) → b ≡ true → (not b && c) ≡ false
not_true true c is = refl
not_true false c is = absurd (cc)

and_false : (b c : Bool) → b ≡ false → (b && c) ≡ false
and_false true c is = absurd (cc)
and_false false c is = refl

and_false_second : (b c : Bool) → c ≡ false → (b && c) ≡ false
and_false_second true c is = is
and_false_second false c is = refl

some_or_end : (count len at : ℕ) → (count ≡ 0 → len ≤ at) → (nat_lt 0 count || nat_le len at) ≡ true
some_or_end count len at ends = elim (leb_tells count 0) [
  | inl none ↦ let e : count ≡ 0 = omega (arith, none.1) in rw e (le-leb len at (ends e))
  | inr some ↦ rw (lt-ltb 0 count some.1) refl
]

gives_taken : (reads : List ℕ) (at count : ℕ) → count ≤ length reads - at → (count ≡ 0 → length reads ≤ at)
    → gives reads at (take count (drop at reads)) ≡ true
gives_taken reads at count within ends =
    let len : length (take count (drop at reads)) ≡ count =
    omega (arith, length-take count (drop at reads), length-drop at reads) in
    and_both _ _ ((bytes_eq-Decides (take (length (take count (drop at reads))) (drop at reads))
    (take count (drop at reads))).1 (ap (λ (n : ℕ). take n (drop at reads)) len))
    (ap (λ (n : ℕ). nat_lt 0 n || nat_le (length reads) at) len ∙ some_or_end count (length reads) at ends)

pub believes : (first : First) (history : List Call) → is_honest first history ≡ true → Believes first history
believes first history honest = record {
  began_is = honest;
  means_is = λ area at len. honest;
  lengths = λ area. and_both _ _ (eq-eqb _ _ refl) honest;
  bytes = λ area at count within ends. and_both _ _ (gives_taken
      (held_by first area history).reads at count within ends) honest;
  writes = λ area at bytes. honest;
  names = λ area none. and_both _ _ (not_false _ none) honest;
  syncs = λ area none. and_both _ _ (not_false _ none) honest;
  refusals = λ call is. and_both _ _ (refusal_agrees first history call is) honest;
}

other_bytes : (reads : List ℕ) (at : ℕ) (bytes : List ℕ) → take (length bytes) (drop at reads) ≢ bytes
    → gives reads at bytes ≡ false
other_bytes reads at bytes other = elim (cases_Bool (bytes_eq (take (length bytes) (drop at reads)) bytes)) [
  | inl same ↦ absurd (other ((bytes_eq-Decides (take (length bytes) (drop at reads)) bytes).0 same))
  | inr differs ↦ and_false _ _ differs
]

no_end : (reads : List ℕ) (at : ℕ) → at < length reads → gives reads at [] ≡ false
no_end reads at more = elim (cases_Bool (nat_le (length reads) at)) [
  | inl ended ↦ let le = leb-true (length reads) at ended in absurd (omega arith)
  | inr not_ended ↦ and_false_second (bytes_eq (take 0 (drop at reads)) []) (nat_le (length reads) at) not_ended
]

pub doubts : (first : First) (history : List Call) → Doubts first history
doubts first history = record {
  lengths = λ area len other. and_false _ _ (ne_eqb len (length (held_by first area history).reads) other);
  bytes = λ area at bytes other. and_false _ _ (other_bytes (held_by first area history).reads at bytes other);
  ends = λ area at more. and_false _ _ (no_end (held_by first area history).reads at more);
  names = λ area lost. not_true _ _ lost;
  syncs = λ area lost. not_true _ _ lost;
  later = λ silent call. and_false_second (agrees first call history) _ silent;
}
