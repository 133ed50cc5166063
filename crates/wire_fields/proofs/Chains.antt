-- Fields read one after another, as a row or a command reads them.
use Rattle.std.proofs.Common.{◌≡◌, ℕ, ◌+◌, ◌-◌, ◌<◌, List, ◌++◌, length, take, drop, Result, Ok, Err, refl, sym, ap, subst, ◌∙◌, arith, inl, inr}
use Rattle.std.proofs.lemmas.Bool.{cases_lt}
use Rattle.std.proofs.lemmas.List.{take-append-le, drop_at, drop-drop, length-append}
use Rattle.wire_fields.specs.declared.fault.FieldFault.{FieldFault}
use Rattle.wire_fields.specs.declared.fault.FieldFault.TheVariants.{Short}
use Rattle.wire_fields.specs.Laws.{IsBytes, TextStandsAt, IsField}
use Rattle.wire_fields.specs.Reading.{◌>>=◌}
use Rattle.wire_fields.proofs.Places.{StandsAt-append, StandsAt-front, StandsAt-back}
use Rattle.wire_fields.proofs.Fronts.{IsRead-written, ok_is}
use Rattle.wire_fields.proofs.Pairs.{bind_ok, take-append_back}

-- the readings that are left once the fields before them gave `c`: they give a value whose fields before are `c`
pub record IsTail {C Z : Type 0} (before : Z → C) (Fits : Z → Type 0) (text : Z → List ℕ)
    (tail : C → List ℕ → ℕ → Result (Z × ℕ) FieldFault) : Type 0 where
  pub spelled : (c : C) (bytes : List ℕ) (at : ℕ) (z : Z) (after : ℕ) → IsBytes bytes → tail c bytes at ≡ Ok (z, after)
      → TextStandsAt bytes at (text z) × (after ≡ at + length (text z)) × Fits z × (before z ≡ c)
  pub again : (bytes : List ℕ) (at : ℕ) (z : Z) → Fits z → TextStandsAt bytes at (text z)
      → tail (before z) bytes at ≡ Ok (z, at + length (text z))
  pub cut : (bytes : List ℕ) (at k : ℕ) (z : Z) → Fits z → k < length (text z) → drop at bytes ≡ take k (text z)
      → tail (before z) bytes at ≡ Err (Short (length bytes))

-- a value is made of the fields before the last and of the last, and has them
pub record IsMadeOf {C X Z : Type 0} (make : C → X → Z) (before : Z → C) (last : Z → X) : Type 0 where
  pub made : (z : Z) → make (before z) (last z) ≡ z
  pub before_of : (c : C) (x : X) → before (make c x) ≡ c
  pub last_of : (c : C) (x : X) → last (make c x) ≡ x

-- the last field
pub IsTail-last : {C X Z : Type 0} {Fits : X → Type 0} {s : X → List ℕ} {read : List ℕ → ℕ → Result (X × ℕ) FieldFault}
    (make : C → X → Z) (before : Z → C) (last : Z → X) → IsMadeOf make before last → IsField Fits s read
    → IsTail before (λ z. Fits (last z)) (λ z. s (last z)) (λ c bytes at. read bytes at >>= λ x. Ok (make c x.0, x.1))
IsTail-last {C} {X} {Z} {Fits} {s} {read} make before last parts is = record {
  spelled = λ c bytes at z after ib e.
      let x = bind_ok (read bytes at) (λ x. Ok (make c x.0, x.1)) (z, after) e in
      let front = is.spelled bytes at x.0.0 x.0.1 ib x.1 in
      let pair : ◌≡◌ {A = Z × ℕ} (make c x.0.0, x.0.1) (z, after) =
      ok_is {X = Z × ℕ} (make c x.0.0, x.0.1) (z, after) x.2 in
      let last-is : x.0.0 ≡ last z = sym (parts.last_of c x.0.0) ∙ ap (λ (p : Z × ℕ). last p.0) pair in (
        subst (λ (v : X). TextStandsAt bytes at (s v)) last-is front.0,
        sym (ap (λ (p : Z × ℕ). p.1) pair) ∙ front.1 ∙ ap (λ (v : X). at + length (s v)) last-is,
        subst Fits last-is front.2,
        sym (ap (λ (p : Z × ℕ). before p.0) pair) ∙ parts.before_of c x.0.0,
      );
  again = λ bytes at z fits stands.
      ap (λ (r : Result (X × ℕ) FieldFault). r >>= λ x. Ok (make (before z) x.0, x.1))
      (is.again bytes at (last z) fits stands)
      ∙ ap (λ (v : Z). Ok (v, at + length (s (last z)))) (parts.made z);
  cut = λ bytes at k z fits lt e.
      ap (λ (r : Result (X × ℕ) FieldFault). r >>= λ x. Ok (make (before z) x.0, x.1))
      (is.cut bytes at k (last z) fits lt e);
}

-- one field more, before the others
pub IsTail-more : {C X Z : Type 0} {FitsX : X → Type 0} {s : X → List ℕ} {read : List ℕ → ℕ → Result (X × ℕ) FieldFault}
    {Fits : Z → Type 0} {text : Z → List ℕ} {tail : C × X → List ℕ → ℕ → Result (Z × ℕ) FieldFault}
    (before : Z → C × X) → IsField FitsX s read → IsTail before Fits text tail
    → IsTail (λ z. (before z).0) (λ z. FitsX (before z).1 × Fits z) (λ z. s (before z).1 ++ text z)
    (λ c bytes at. read bytes at >>= λ x. tail (c, x.0) bytes x.1)
IsTail-more {C} {X} {Z} {FitsX} {s} {read} {Fits} {text} {tail} before is js =
    let behind : C → List ℕ → X × ℕ → Result (Z × ℕ) FieldFault = λ c bytes x. tail (c, x.0) bytes x.1 in
    record {
      spelled = λ c bytes at z after ib e.
          let x = bind_ok (read bytes at) (behind c bytes) (z, after) e in
          let front = is.spelled bytes at x.0.0 x.0.1 ib x.1 in
          let back = js.spelled (c, x.0.0) bytes x.0.1 z after ib x.2 in
          let x-is : x.0.0 ≡ (before z).1 = sym (ap (λ (d : C × X). d.1) back.3) in
          let there : TextStandsAt bytes (at + length (s x.0.0)) (text z) =
          subst (λ (n : ℕ). TextStandsAt bytes n (text z)) front.1 back.0 in
          let both = StandsAt-append bytes at (s x.0.0) (text z) front.0 there in
          let place : after ≡ at + length (s x.0.0 ++ text z) =
          omega (arith, length-append (s x.0.0) (text z), front.1, back.1) in (
            subst (λ (v : X). TextStandsAt bytes at (s v ++ text z)) x-is both,
            place ∙ ap (λ (v : X). at + length (s v ++ text z)) x-is,
            (subst FitsX x-is front.2, back.2),
            ap (λ (d : C × X). d.0) back.3,
          );
      again = λ bytes at z fits stands.
          let a = s (before z).1 in
          let e1 = is.again bytes at (before z).1 fits.0 (StandsAt-front bytes at a (text z) stands) in
          let e2 = js.again bytes (at + length a) z fits.1 (StandsAt-back bytes at a (text z) stands) in
          let place : at + length a + length (text z) ≡ at + length (a ++ text z) =
          omega (arith, length-append a (text z)) in
          ap (λ (r : Result (X × ℕ) FieldFault). r >>= behind (before z).0 bytes) e1 ∙ e2 ∙ ap
          (λ (n : ℕ). Ok (z, n)) place;
      cut = λ bytes at k z fits lt e.
          let a = s (before z).1 in
          let b = text z in
          elim (cases_lt k (length a)) [
            | inl inside ↦
                let front-is : drop at bytes ≡ take k a = e ∙ take-append-le k a b (omega arith) in
                ap (λ (r : Result (X × ℕ) FieldFault). r >>= behind (before z).0 bytes)
                (is.cut bytes at k (before z).1 fits.0 inside front-is)
            | inr past ↦
                let whole : drop at bytes ≡ a ++ take (k - length a) b = e ∙ take-append_back a b k past in
                let e1 = is.again bytes at (before z).1 fits.0 (record { rest = take (k - length a) b; parts = whole })
                in
                let rest-is : drop (at + length a) bytes ≡ take (k - length a) b =
                sym (drop-drop (length a) at bytes) ∙ ap (drop (length a)) whole ∙ drop_at a (take (k - length a) b)
                (length a) refl in
                ap (λ (r : Result (X × ℕ) FieldFault). r >>= behind (before z).0 bytes) e1
                ∙ js.cut bytes (at + length a) (k - length a) z fits.1 (omega (arith, length-append a b)) rest-is
          ];
    }

-- the whole chain is a field
pub IsField-chain : {Z : Type 0} {Fits : Z → Type 0} {text : Z → List ℕ}
    {tail : Unit {0} → List ℕ → ℕ → Result (Z × ℕ) FieldFault}
    → IsTail (λ z. tt) Fits text tail → IsField Fits text (tail tt)
IsField-chain is = record {
  spelled = λ bytes at z after ib e. let all = is.spelled tt bytes at z after ib e in (all.0, all.1, all.2);
  again = is.again;
  back = IsRead-written (record { again = is.again });
  cut = is.cut;
}
