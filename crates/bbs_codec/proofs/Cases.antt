-- The laws of a field hold of a value in cases, where they hold of the fields of each case.
use Rattle.std.proofs.Common.{◌≡◌, ℕ, ◌+◌, ◌-◌, ◌^◌, ◌<◌, ◌≤◌, List, ◌++◌, length, take, drop, Result, Ok, Err, refl, sym, ap, subst, ◌∙◌, arith, length-append, inl, inr}
use Rattle.std.specs.Prelude.{slice_index_or}
use Rattle.std.specs.Int.{w8}
use Rattle.std.proofs.lemmas.Bool.{cases_lt}
use Rattle.std.proofs.lemmas.List.{take-append-le, drop_at, drop-drop}
use Rattle.wire_fields.specs.Field.{field_number}
use Rattle.wire_fields.specs.Laws.{IsBytes, TextStandsAt}
use Rattle.wire_fields.specs.Reading.{◌>>=◌, number_at}
use Rattle.wire_fields.specs.declared.fault.FieldFault.{FieldFault}
use Rattle.wire_fields.specs.declared.fault.FieldFault.TheVariants.{Short, BadField}
use Rattle.wire_fields.proofs.Public.{IsRead, IsRead-written, ok_is, length-field_u8, IsField-u8, bind_ok, take-append_back, StandsAt-append, StandsAt-front, StandsAt-back}
use Rattle.bbs_codec.specs.Format.{Format, IsFormat, seen_at}
use Rattle.bbs_codec.specs.RowFormats.{Reads, Case, case_of, case_alone, alone, case_at, cases}
use Rattle.bbs_codec.proofs.Records.{HasLaws, seen_found, seen_again}

-- nothing is read, and this is the place that is told
abbrev pub none_at : {X : Type 0} → ℕ → Reads X
none_at place _ _ = Err (BadField place)

-- the fields of the value's case stand at the place, and the other place is behind them
pub record Stands (n : ℕ) (bytes : List ℕ) (at : ℕ) (c : Case) (after : ℕ) : Type 0 where
  pub number : c.number ≡ n
  pub stands : TextStandsAt bytes at c.fields
  pub place : after ≡ at + length c.fields
  pub fits : c.Fits

-- what is read so is of the case of this number
pub record IsCase {X : Type 0} (case : X → Case) (n : ℕ) (read : Reads X) : Type 0 where
  pub spelled : (bytes : List ℕ) (at : ℕ) (x : X) (after : ℕ) → IsBytes bytes → read bytes at ≡ Ok (x, after)
      → Stands n bytes at (case x) after

-- a value whose fields stand there is read, and it is told where they are cut off
pub record IsAgain {X : Type 0} (c : Case) (x : X) (read : Reads X) : Type 0 where
  pub again : (bytes : List ℕ) (at : ℕ) → c.Fits → TextStandsAt bytes at c.fields
      → read bytes at ≡ Ok (x, at + length c.fields)
  pub cut : (bytes : List ℕ) (at k : ℕ) → c.Fits → k < length c.fields → drop at bytes ≡ take k c.fields
      → read bytes at ≡ Err (Short (length bytes))
  pub most : c.Fits → length c.fields ≤ 93
  pub small : c.number < 2 ^ 8

-- these are the readers of the cases
pub record AreCases {X : Type 0} (case : X → Case) (readers : List (Reads X)) : Type 0 where
  pub found : (place n : ℕ) → IsCase case n (slice_index_or readers n (none_at place))
  pub each : (place : ℕ) (x : X) → IsAgain (case x) x (slice_index_or readers (case x).number (none_at place))

pub IsCase-none : {X : Type 0} (case : X → Case) (n place : ℕ) → IsCase case n (none_at place)
IsCase-none case n place = record { spelled = λ bytes at x after ib e. absurd cc }

pub IsCase-alone : {X : Type 0} {case : X → Case} {n : ℕ} (one : X) → case one ≡ case_alone n
    → IsCase case n (alone one)
IsCase-alone {X} {case} {n} one is = record {
  spelled = λ bytes at x after ib e.
      let pair : ◌≡◌ {A = X × ℕ} (one, at) (x, after) = ok_is {X = X × ℕ} (one, at) (x, after) e in
      let there : Stands n bytes at (case_alone n) at = record
      { number = refl; stands = record { rest = drop at bytes; parts = refl }; place = omega arith; fits = tt } in
      subst (λ (p : X × ℕ). Stands n bytes at (case p.0) p.1) pair
      (subst (λ (c : Case). Stands n bytes at c at) (sym is) there);
}

pub IsCase-seen : {X P : Type 0} {case : X → Case} {n low high : ℕ} {f : Format P} (make : P → X) → HasLaws f low high
    → ((p : P) → case (make p) ≡ case_of n f p)
    → IsCase case n (seen_at make f.read)
IsCase-seen {X} {P} {case} {n} {f = f} make laws is = record {
  spelled = λ bytes at x after ib e.
      let p = seen_found make f.read bytes at x after e in
      let found = laws.field.spelled bytes at p.value after ib p.is_read in
      let same : case_of n f p.value ≡ case x = sym (is p.value) ∙ ap case p.made in
      let there : Stands n bytes at (case_of n f p.value) after =
      record { number = refl; stands = found.0; place = found.1; fits = found.2 } in
      subst (λ (c : Case). Stands n bytes at c after) same there;
}

pub IsAgain-alone : {X : Type 0} {n : ℕ} (x : X) → n < 2 ^ 8 → IsAgain (case_alone n) x (alone x)
IsAgain-alone {X} x small = record {
  again = λ bytes at fits stands. let place : at ≡ at + 0 = omega arith in ap (λ (n : ℕ). Ok (x, n)) place;
  cut = λ bytes at k fits lt e. absurd (omega arith);
  most = λ fits. omega arith;
  small = small;
}

pub IsAgain-seen : {X P : Type 0} {n low high : ℕ} {f : Format P} (make : P → X) (p : P) → HasLaws f low high
    → high ≤ 93 → n < 2 ^ 8
    → IsAgain (case_of n f p) (make p) (seen_at make f.read)
unfolding seen_at
IsAgain-seen {X} {P} {f = f} make p laws le small = record {
  again = λ bytes at fits stands. seen_again make f.read bytes at p (at + length (f.spelling p))
      (laws.field.again bytes at p fits stands);
  cut = λ bytes at k fits lt e. ap (λ (r : Result (P × ℕ) FieldFault). r >>= λ x. Ok (make x.0, x.1))
      (laws.field.cut bytes at k p fits lt e);
  most = λ fits. omega (arith, laws.most p fits);
  small = small;
}

pub IsFormat-cases : {X : Type 0} {case : X → Case} {readers : List (Reads X)} → AreCases case readers
    → IsFormat (cases case readers)
IsFormat-cases {X} {case} {readers} are =
    let text : X → List ℕ = λ x. field_number w8 (case x).number ++ (case x).fields in
    let behind : ℕ → List ℕ → ℕ × ℕ → Result (X × ℕ) FieldFault = λ at bytes number.
    slice_index_or readers number.0 (none_at at) bytes number.1 in
    let reads : IsRead (λ x. (case x).Fits) text (case_at readers) = record {
      again = λ bytes at x fits stands.
          let a = field_number w8 (case x).number in
          let b = (case x).fields in
          let is = are.each at x in
          let e1 = IsField-u8.again bytes at (case x).number is.small (StandsAt-front bytes at a b stands) in
          let e2 = is.again bytes (at + length a) fits (StandsAt-back bytes at a b stands) in
          let place : at + length a + length b ≡ at + length (a ++ b) = omega (arith, length-append a b) in
          ap (λ (r : Result (ℕ × ℕ) FieldFault). r >>= behind at bytes) e1 ∙ e2 ∙ ap (λ (n : ℕ). Ok (x, n)) place;
    } in
    record {
      spelled = λ bytes at x after ib e.
          let n = bind_ok (number_at w8 bytes at) (behind at bytes) (x, after) e in
          let front = IsField-u8.spelled bytes at n.0.0 n.0.1 ib n.1 in
          let back = (are.found at n.0.0).spelled bytes n.0.1 x after ib n.2 in
          let a = field_number w8 (case x).number in
          let b = (case x).fields in
          let first : TextStandsAt bytes at a = subst (λ (m : ℕ). TextStandsAt bytes at (field_number w8 m))
          (sym back.number) front.0 in
          let middle : n.0.1 ≡ at + length a = omega (
            arith,
            front.1,
            length-field_u8 n.0.0,
            length-field_u8 (case x).number,
          ) in
          let second : TextStandsAt bytes (at + length a) b =
          subst (λ (m : ℕ). TextStandsAt bytes m b) middle back.stands in (
            StandsAt-append bytes at a b first second,
            omega (arith, back.place, middle, length-append a b),
            back.fits,
          );
      again = reads.again;
      back = IsRead-written reads;
      cut = λ bytes at k x fits lt e.
          let a = field_number w8 (case x).number in
          let b = (case x).fields in
          let is = are.each at x in
          elim (cases_lt k (length a)) [
            | inl inside ↦
                let front-is : drop at bytes ≡ take k a = e ∙ take-append-le k a b (omega arith) in
                ap (λ (r : Result (ℕ × ℕ) FieldFault). r >>= behind at bytes)
                (IsField-u8.cut bytes at k (case x).number is.small inside front-is)
            | inr past ↦
                let whole : drop at bytes ≡ a ++ take (k - length a) b = e ∙ take-append_back a b k past in
                let e1 = IsField-u8.again bytes at (case x).number is.small
                (record { rest = take (k - length a) b; parts = whole }) in
                let rest-is : drop (at + length a) bytes ≡ take (k - length a) b =
                sym (drop-drop (length a) at bytes) ∙ ap (drop (length a)) whole ∙ drop_at a (take (k - length a) b)
                (length a) refl in
                ap (λ (r : Result (ℕ × ℕ) FieldFault). r >>= behind at bytes) e1
                ∙ is.cut bytes (at + length a) (k - length a) fits (omega (arith, length-append a b)) rest-is
          ];
    }

pub laws-cases : {X : Type 0} {case : X → Case} {readers : List (Reads X)} → AreCases case readers
    → HasLaws (cases case readers) 1 94
laws-cases {case = case} are = record {
  field = IsFormat-cases are;
  least = λ x fits. omega (
    arith,
    length-append (field_number w8 (case x).number) (case x).fields,
    length-field_u8 (case x).number,
  );
  most = λ x fits. omega (
    arith,
    length-append (field_number w8 (case x).number) (case x).fields,
    length-field_u8 (case x).number,
    (are.each 0 x).most fits,
  );
}
