-- Two fields, one behind the other, are a field.
use Rattle.std.proofs.Common.{◌≡◌, ℕ, ◌+◌, ◌-◌, ◌≤◌, List, ◌++◌, length, take, drop, Result, Ok, Err, refl, sym, ap, subst, ◌∙◌, arith, inl, inr}
use Rattle.std.proofs.lemmas.Bool.{cases_lt}
use Rattle.std.proofs.lemmas.List.{take-append-le, drop_at, drop-drop, length-append}
use Rattle.std.proofs.Math.Seq.{take-append-add}
use Rattle.wire_fields.specs.declared.fault.FieldFault.{FieldFault}
use Rattle.wire_fields.specs.Laws.{TextStandsAt, IsField}
use Rattle.wire_fields.specs.Reading.{◌>>=◌}
use Rattle.wire_fields.proofs.Places.{StandsAt-append, StandsAt-front, StandsAt-back}
use Rattle.wire_fields.proofs.Fronts.{IsRead, IsRead-written, ok_is}

-- the value of a reading that did not fail
pub bind_ok : {A B E : Type 0} (r : Result A E) (f : A → Result B E) (y : B) → (r >>= f) ≡ Ok y
    → (x : A) × (r ≡ Ok x) × (f x ≡ Ok y)
bind_ok (Ok x) f y e = (x, refl, e)
bind_ok (Err d) f y e = absurd cc

-- a reading of a field, and of another behind it, put together
abbrev pub pair_at : {X Y Z : Type 0} → (X → Y → Z) → (List ℕ → ℕ → Result (X × ℕ) FieldFault)
    → (List ℕ → ℕ → Result (Y × ℕ) FieldFault)
    → List ℕ → ℕ → Result (Z × ℕ) FieldFault
pair_at make first second bytes at = first bytes at >>= λ x. second bytes x.1 >>= λ y. Ok (make x.0 y.0, y.1)

-- a value is made of two parts, and has them
pub record IsMade {X Y Z : Type 0} (make : X → Y → Z) (one : Z → X) (other : Z → Y) : Type 0 where
  pub made : (z : Z) → make (one z) (other z) ≡ z
  pub one_of : (x : X) (y : Y) → one (make x y) ≡ x
  pub other_of : (x : X) (y : Y) → other (make x y) ≡ y

-- a text that is cut off in its back
pub take-append_back : (a b : List ℕ) (k : ℕ) → length a ≤ k → take k (a ++ b) ≡ a ++ take (k - length a) b
take-append_back a b k le =
    let k-is : k ≡ length a + (k - length a) = omega arith in
    ap (λ (m : ℕ). take m (a ++ b)) k-is ∙ take-append-add a b (k - length a)

pub IsField-pair : {X Y Z : Type 0} {FitsX : X → Type 0} {FitsY : Y → Type 0} {s : X → List ℕ} {t : Y → List ℕ}
    {first : List ℕ → ℕ → Result (X × ℕ) FieldFault} {second : List ℕ → ℕ → Result (Y × ℕ) FieldFault}
    (make : X → Y → Z) (one : Z → X) (other : Z → Y) → IsMade make one other → IsField FitsX s first
    → IsField FitsY t second
    → IsField (λ z. FitsX (one z) × FitsY (other z)) (λ z. s (one z) ++ t (other z)) (pair_at make first second)
IsField-pair {X} {Y} {Z} {FitsX} {FitsY} {s} {t} {first} {second} make one other parts is js =
    let behind : List ℕ → X × ℕ → Result (Z × ℕ) FieldFault = λ bytes x. second bytes x.1 >>= λ y.
    Ok (make x.0 y.0, y.1) in
    let reads : IsRead (λ z. FitsX (one z) × FitsY (other z)) (λ z. s (one z) ++ t (other z))
    (pair_at make first second) = record {
      again = λ bytes at z fits stands.
          let a = s (one z) in
          let b = t (other z) in
          let e1 = is.again bytes at (one z) fits.0 (StandsAt-front bytes at a b stands) in
          let e2 = js.again bytes (at + length a) (other z) fits.1 (StandsAt-back bytes at a b stands) in
          let place : at + length a + length b ≡ at + length (a ++ b) = omega (arith, length-append a b) in
          ap (λ (r : Result (X × ℕ) FieldFault). r >>= behind bytes) e1
          ∙ ap (λ (r : Result (Y × ℕ) FieldFault). r >>= λ y. Ok (make (one z) y.0, y.1)) e2
          ∙ ap (λ (v : Z). Ok (v, at + length a + length b)) (parts.made z)
          ∙ ap (λ (n : ℕ). Ok (z, n)) place;
    } in
    record {
      spelled = λ bytes at z after ib e.
          let x = bind_ok (first bytes at) (behind bytes) (z, after) e in
          let y = bind_ok (second bytes x.0.1) (λ y. Ok (make x.0.0 y.0, y.1)) (z, after) x.2 in
          let front = is.spelled bytes at x.0.0 x.0.1 ib x.1 in
          let back = js.spelled bytes x.0.1 y.0.0 y.0.1 ib y.1 in
          let there : TextStandsAt bytes (at + length (s x.0.0)) (t y.0.0) =
          subst (λ (n : ℕ). TextStandsAt bytes n (t y.0.0)) front.1 back.0 in
          let both = StandsAt-append bytes at (s x.0.0) (t y.0.0) front.0 there in
          let place : y.0.1 ≡ at + length (s x.0.0 ++ t y.0.0) =
          omega (arith, length-append (s x.0.0) (t y.0.0), front.1, back.1) in
          let pair : ◌≡◌ {A = Z × ℕ} (make x.0.0 y.0.0, y.0.1) (z, after) =
          ok_is {X = Z × ℕ} (make x.0.0 y.0.0, y.0.1) (z, after) y.2 in
          let one-is : x.0.0 ≡ one z = sym (parts.one_of x.0.0 y.0.0) ∙ ap (λ (p : Z × ℕ). one p.0) pair in
          let other-is : y.0.0 ≡ other z = sym (parts.other_of x.0.0 y.0.0) ∙ ap (λ (p : Z × ℕ). other p.0) pair in
          let text : s x.0.0 ++ t y.0.0 ≡ s (one z) ++ t (other z) =
          ap (λ (v : X). s v ++ t y.0.0) one-is ∙ ap (λ (v : Y). s (one z) ++ t v) other-is in (
            subst (TextStandsAt bytes at) text both,
            sym (ap (λ (p : Z × ℕ). p.1) pair) ∙ place ∙ ap (λ (w : List ℕ). at + length w) text,
            (subst FitsX one-is front.2, subst FitsY other-is back.2),
          );
      again = reads.again;
      back = IsRead-written reads;
      cut = λ bytes at k z fits lt e.
          let a = s (one z) in
          let b = t (other z) in
          elim (cases_lt k (length a)) [
            | inl inside ↦
                let front-is : drop at bytes ≡ take k a = e ∙ take-append-le k a b (omega arith) in
                ap (λ (r : Result (X × ℕ) FieldFault). r >>= behind bytes)
                (is.cut bytes at k (one z) fits.0 inside front-is)
            | inr past ↦
                let whole : drop at bytes ≡ a ++ take (k - length a) b = e ∙ take-append_back a b k past in
                let e1 = is.again bytes at (one z) fits.0 (record { rest = take (k - length a) b; parts = whole }) in
                let rest-is : drop (at + length a) bytes ≡ take (k - length a) b =
                sym (drop-drop (length a) at bytes) ∙ ap (drop (length a)) whole ∙ drop_at a (take (k - length a) b)
                (length a) refl in
                let e2 = js.cut bytes (at + length a) (k - length a) (other z) fits.1
                (omega (arith, length-append a b)) rest-is in
                ap (λ (r : Result (X × ℕ) FieldFault). r >>= behind bytes) e1
                ∙ ap (λ (r : Result (Y × ℕ) FieldFault). r >>= λ y. Ok (make (one z) y.0, y.1)) e2
          ];
    }
