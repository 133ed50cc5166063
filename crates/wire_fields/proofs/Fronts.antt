-- The laws of a field, from those of its front.
use Rattle.std.proofs.Common.{◌≡◌, ℕ, ◌+◌, ◌≤◌, ◌<◌, Bool, true, false, cond, List, ◌++◌, length, take, drop, Result, Ok, refl, sym, ap, ◌∙◌, arith}
use Rattle.wire_fields.specs.declared.fault.FieldFault.{FieldFault}
use Rattle.wire_fields.specs.Field.{written}
use Rattle.wire_fields.specs.Front.{Front, Holds, Ends, Bad}
use Rattle.wire_fields.specs.Laws.{IsBytes, TextStandsAt, IsField}
use Rattle.wire_fields.specs.Reading.{field_placed}
use Rattle.wire_fields.proofs.Places.{IsBytes-drop, StandsAt-written}

-- what the front of the bytes holds, as the laws of a field say it
pub record Takes {X : Type 0} (Fits : X → Type 0) (spelling : X → List ℕ) (bytes : List ℕ) (x : X)
    (n : ℕ) : Type 0 where
  pub rest : List ℕ
  pub parts : bytes ≡ spelling x ++ rest
  pub count : n ≡ length (spelling x)
  pub fits : Fits x

-- the laws of a front
pub record IsFront {X : Type 0} (Fits : X → Type 0) (spelling : X → List ℕ) (front : List ℕ → Front X) : Type 0 where
  pub spelled : (bytes : List ℕ) (x : X) (n : ℕ) → IsBytes bytes → front bytes ≡ Holds x n
      → Takes Fits spelling bytes x n
  pub again : (x : X) (rest : List ℕ) → Fits x → front (spelling x ++ rest) ≡ Holds x (length (spelling x))
  pub cut : (x : X) (k : ℕ) → Fits x → k < length (spelling x) → front (take k (spelling x)) ≡ Ends

-- tests that chose a value
pub not_bad : {X : Type 0} (b : Bool) (y : Front X) (x : X) (n : ℕ) → cond b Bad y ≡ Holds x n
    → (b ≡ false) × (y ≡ Holds x n)
not_bad true y x n e = absurd cc
not_bad false y x n e = (refl, e)

pub not_ended : {X : Type 0} (b : Bool) (y : Front X) (x : X) (n : ℕ) → cond b Ends y ≡ Holds x n
    → (b ≡ false) × (y ≡ Holds x n)
not_ended true y x n e = absurd cc
not_ended false y x n e = (refl, e)

-- a front that holds a value holds no other
pub held : {X : Type 0} (x y : X) (m n : ℕ) → Holds x m ≡ Holds y n → (x ≡ y) × (m ≡ n)
held x y m n e = (cc, cc)

-- a reading that gave one value gave no other
pub ok_is : {X : Type 0} (x y : X) → ◌≡◌ {A = Result X FieldFault} (Ok x) (Ok y) → x ≡ y
ok_is x y e = cc

placed_ok : {X : Type 0} (bytes : List ℕ) (at : ℕ) (f : Front X) (x : X) (after : ℕ)
    → field_placed bytes at f ≡ Ok (x, after) → (n : ℕ) × (f ≡ Holds x n) × (after ≡ at + n)
placed_ok {X = X} bytes at (Holds y n) x after e =
    let pair = ok_is {X = X × ℕ} (y, at + n) (x, after) e in
    (n, ap (λ (p : X × ℕ). Holds p.0 n) pair, sym (ap (λ (p : X × ℕ). p.1) pair))
placed_ok bytes at Ends x after e = absurd cc
placed_ok bytes at Bad x after e = absurd cc

-- what is spelled is read, so what was written is read back
pub record IsRead {X : Type 0} (Fits : X → Type 0) (spelling : X → List ℕ)
    (read : List ℕ → ℕ → Result (X × ℕ) FieldFault) : Type 0 where
  pub again : (bytes : List ℕ) (at : ℕ) (x : X) → Fits x → TextStandsAt bytes at (spelling x)
      → read bytes at ≡ Ok (x, at + length (spelling x))

pub IsRead-written : {X : Type 0} {Fits : X → Type 0} {spelling : X → List ℕ}
    {read : List ℕ → ℕ → Result (X × ℕ) FieldFault} → IsRead Fits spelling read
    → (out : List ℕ) (at : ℕ) (x : X) → Fits x → at + length (spelling x) ≤ length out
    → read (written out at (spelling x)) at ≡ Ok (x, at + length (spelling x))
IsRead-written {spelling = spelling} is out at x fits room =
    is.again (written out at (spelling x)) at x fits (StandsAt-written out at (spelling x) (omega arith))

pub IsField-from_front : {X : Type 0} {Fits : X → Type 0} {spelling : X → List ℕ} {front : List ℕ → Front X}
    → IsFront Fits spelling front
    → IsField Fits spelling (λ bytes at. field_placed bytes at (front (drop at bytes)))
IsField-from_front {X} {Fits} {spelling} {front} is =
    let read : List ℕ → ℕ → Result (X × ℕ) FieldFault = λ bytes at. field_placed bytes at (front (drop at bytes)) in
    let reads : IsRead Fits spelling read = record {
      again = λ bytes at x fits stands. ap (λ (ds : List ℕ). field_placed bytes at (front ds)) stands.parts ∙ ap
          (field_placed bytes at) (is.again x stands.rest fits);
    } in
    record {
      spelled = λ bytes at x after ib e.
          let p = placed_ok bytes at (front (drop at bytes)) x after e in
          let t = is.spelled (drop at bytes) x p.0 (IsBytes-drop at bytes ib) p.1 in
          (record { rest = t.rest; parts = t.parts }, omega (arith, p.2, t.count), t.fits);
      again = reads.again;
      back = IsRead-written reads;
      cut = λ bytes at k x fits lt e. ap (λ (ds : List ℕ). field_placed bytes at (front ds)) e ∙ ap
          (field_placed bytes at) (is.cut x k fits lt);
    }
