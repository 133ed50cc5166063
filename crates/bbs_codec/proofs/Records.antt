-- The laws of a field hold of a value seen otherwise, and of two and three values.
use Rattle.std.proofs.Common.{◌≡◌, ℕ, ◌+◌, true, false, List, nat_eq, length, Result, Ok, refl, sym, ap, subst, ◌∙◌, ◌≤◌, arith, length-append}
use Rattle.wire_fields.specs.declared.fault.FieldFault.{FieldFault}
use Rattle.wire_fields.specs.Laws.{TextStandsAt}
use Rattle.wire_fields.specs.Reading.{◌>>=◌}
use Rattle.wire_fields.proofs.Public.{IsRead, IsRead-written, ok_is, bind_ok, IsField-pair}
use Rattle.bbs_codec.specs.Format.{Format, IsFormat, seen_at, both, three, seen, seen_where, nothing, old_or, format_in}

-- a value that was read, where the other one was read
pub record IsSeen {X Y : Type 0} (make : X → Y) (read : List ℕ → ℕ → Result (X × ℕ) FieldFault) (bytes : List ℕ)
    (at : ℕ) (y : Y) (after : ℕ) : Type 0 where
  pub value : X
  pub is_read : read bytes at ≡ Ok (value, after)
  pub made : make value ≡ y

pub seen_found : {X Y : Type 0} (make : X → Y) (read : List ℕ → ℕ → Result (X × ℕ) FieldFault) (bytes : List ℕ) (at : ℕ)
    (y : Y) (after : ℕ)
    → seen_at make read bytes at ≡ Ok (y, after) → IsSeen make read bytes at y after
unfolding seen_at
seen_found {X} {Y} make read bytes at y after e =
    let x = bind_ok (read bytes at) (λ x. Ok (make x.0, x.1)) (y, after) e in
    let pair : ◌≡◌ {A = Y × ℕ} (make x.0.0, x.0.1) (y, after) = ok_is {X = Y × ℕ} (make x.0.0, x.0.1) (y, after) x.2 in
    record {
      value = x.0.0;
      is_read = x.1 ∙ ap (λ (p : Y × ℕ). Ok (x.0.0, p.1)) pair;
      made = ap (λ (p : Y × ℕ). p.0) pair;
    }

pub seen_again : {X Y : Type 0} (make : X → Y) (read : List ℕ → ℕ → Result (X × ℕ) FieldFault) (bytes : List ℕ) (at : ℕ)
    (x : X) (after : ℕ)
    → read bytes at ≡ Ok (x, after) → seen_at make read bytes at ≡ Ok (make x, after)
unfolding seen_at
seen_again {X} {Y} make read bytes at x after e = ap (λ (r : Result (X × ℕ) FieldFault). r >>= λ x. Ok (make x.0, x.1))
    e

-- the laws of a field hold of a format, and each value takes at least and at most so many bytes
pub record HasLaws {X : Type 0} (f : Format X) (low high : ℕ) : Type 0 where
  pub field : IsFormat f
  pub least : (x : X) → f.Fits x → low ≤ length (f.spelling x)
  pub most : (x : X) → f.Fits x → length (f.spelling x) ≤ high

-- a value is made of another, which has its parts
pub record IsSame {X Y : Type 0} (make : X → Y) (parts : Y → X) : Type 0 where
  pub made : (y : Y) → make (parts y) ≡ y
  pub parted : (x : X) → parts (make x) ≡ x

IsFormat-seen : {X Y : Type 0} {f : Format X} {make : X → Y} {parts : Y → X} → IsSame make parts → IsFormat f
    → IsFormat (seen make parts f)
unfolding seen_at
IsFormat-seen {X} {Y} {f} {make} {parts} same is =
    let reads : IsRead (λ y. f.Fits (parts y)) (λ y. f.spelling (parts y)) (seen_at make f.read) = record {
      again = λ bytes at y fits stands.
          seen_again make f.read bytes at (parts y) (at + length (f.spelling (parts y)))
          (is.again bytes at (parts y) fits stands)
          ∙ ap (λ (v : Y). Ok (v, at + length (f.spelling (parts y)))) (same.made y);
    } in
    record {
      spelled = λ bytes at y after ib e.
          let x = seen_found make f.read bytes at y after e in
          let x-is : x.value ≡ parts y = sym (same.parted x.value) ∙ ap parts x.made in
          let found = is.spelled bytes at x.value after ib x.is_read in (
            subst (λ (v : X). TextStandsAt bytes at (f.spelling v)) x-is found.0,
            subst (λ (v : X). after ≡ at + length (f.spelling v)) x-is found.1,
            subst f.Fits x-is found.2,
          );
      again = reads.again;
      back = IsRead-written reads;
      cut = λ bytes at k y fits lt e. ap (λ (r : Result (X × ℕ) FieldFault). r >>= λ x. Ok (make x.0, x.1))
          (is.cut bytes at k (parts y) fits lt e);
    }

pub laws-seen : {X Y : Type 0} {f : Format X} {low high : ℕ} {make : X → Y} {parts : Y → X} → IsSame make parts
    → HasLaws f low high
    → HasLaws (seen make parts f) low high
laws-seen {f = f} {parts = parts} same laws = record {
  field = IsFormat-seen {f = f} same laws.field;
  least = λ y fits. laws.least (parts y) fits;
  most = λ y fits. laws.most (parts y) fits;
}

-- a value is made of another, which has its parts, where it is one of these
pub record IsSameWhere {X Y : Type 0} (P : Y → Type 0) (make : X → Y) (parts : Y → X) : Type 0 where
  pub made : (y : Y) → P y → make (parts y) ≡ y
  pub parted : (x : X) → parts (make x) ≡ x
  pub within : (x : X) → P (make x)

IsFormat-seen_where : {X Y : Type 0} {P : Y → Type 0} {f : Format X} {make : X → Y} {parts : Y → X}
    → IsSameWhere P make parts → IsFormat f → IsFormat (seen_where P make parts f)
unfolding seen_at
IsFormat-seen_where {X} {Y} {P} {f} {make} {parts} same is =
    let reads : IsRead (λ y. P y × f.Fits (parts y)) (λ y. f.spelling (parts y)) (seen_at make f.read) = record {
      again = λ bytes at y fits stands.
          seen_again make f.read bytes at (parts y) (at + length (f.spelling (parts y)))
          (is.again bytes at (parts y) fits.1 stands)
          ∙ ap (λ (v : Y). Ok (v, at + length (f.spelling (parts y)))) (same.made y fits.0);
    } in
    record {
      spelled = λ bytes at y after ib e.
          let x = seen_found make f.read bytes at y after e in
          let x-is : x.value ≡ parts y = sym (same.parted x.value) ∙ ap parts x.made in
          let found = is.spelled bytes at x.value after ib x.is_read in (
            subst (λ (v : X). TextStandsAt bytes at (f.spelling v)) x-is found.0,
            subst (λ (v : X). after ≡ at + length (f.spelling v)) x-is found.1,
            (subst P x.made (same.within x.value), subst f.Fits x-is found.2),
          );
      again = reads.again;
      back = IsRead-written reads;
      cut = λ bytes at k y fits lt e. ap (λ (r : Result (X × ℕ) FieldFault). r >>= λ x. Ok (make x.0, x.1))
          (is.cut bytes at k (parts y) fits.1 lt e);
    }

pub laws-seen_where : {X Y : Type 0} {P : Y → Type 0} {f : Format X} {low high : ℕ} {make : X → Y} {parts : Y → X}
    → IsSameWhere P make parts → HasLaws f low high → HasLaws (seen_where P make parts f) low high
laws-seen_where {f = f} {parts = parts} same laws = record {
  field = IsFormat-seen_where {f = f} same laws.field;
  least = λ y fits. laws.least (parts y) fits.1;
  most = λ y fits. laws.most (parts y) fits.1;
}

pub IsFormat-nothing : {X : Type 0} → IsFormat {X = X} nothing
IsFormat-nothing {X} =
    let none : Format X = nothing in
    let reads : IsRead none.Fits none.spelling none.read = record { again = λ bytes at x fits stands. absurd fits } in
    record {
      spelled = λ bytes at x after ib e. absurd cc;
      again = reads.again;
      back = IsRead-written reads;
      cut = λ bytes at k x fits lt e. absurd fits;
    }

-- the format of each version is one, where both are
pub IsFormat-in : {X : Type 0} {old latest : Format X} → IsFormat old → IsFormat latest → (version : ℕ)
    → IsFormat (format_in version old latest)
IsFormat-in {old = old} {latest} was is version =
    elim (nat_eq version 1) as (λ b. IsFormat (old_or b old latest)) [ true ↦ was | false ↦ is ]

pub laws-both : {X Y : Type 0} {f : Format X} {g : Format Y} {a b c d : ℕ} → HasLaws f a b → HasLaws g c d
    → HasLaws (both f g) (a + c) (b + d)
laws-both {X} {Y} {f} {g} first second = record {
  field = IsField-pair {Z = X × Y} (λ x y. (x, y)) (λ p. p.0) (λ p. p.1)
      (record { made = λ z. refl; one_of = λ x y. refl; other_of = λ x y. refl }) first.field second.field;
  least = λ p fits. omega (
    arith,
    length-append (f.spelling p.0) (g.spelling p.1),
    first.least p.0 fits.0,
    second.least p.1 fits.1,
  );
  most = λ p fits. omega (
    arith,
    length-append (f.spelling p.0) (g.spelling p.1),
    first.most p.0 fits.0,
    second.most p.1 fits.1,
  );
}

pub laws-three : {X Y Z : Type 0} {f : Format X} {g : Format Y} {h : Format Z} {a b c d e k : ℕ}
    → HasLaws f a b → HasLaws g c d → HasLaws h e k → HasLaws (three f g h) (a + (c + e)) (b + (d + k))
laws-three first second third =
    laws-seen {make = λ p. (p.0, p.1.0, p.1.1)} {parts = λ t. (t.0, (t.1, t.2))}
    (record { made = λ y. refl; parted = λ x. refl })
    (laws-both first (laws-both second third))
