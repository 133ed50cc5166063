-- A lock command that is spelled is read back, and what is read is spelled so.
use Rattle.std.proofs.Common.{◌≡◌, ℕ, ◌+◌, ◌<◌, ◌≤◌, ◌^◌, Bool, true, false, List, [], ◌∷◌, ◌++◌, length, Some, None, Result, Ok, Err, refl, sym, ap, subst, ◌∙◌, arith, ◌==◌, if◌then◌else◌, eq-eqb, length-append, append-nil}
use borrow.Author.Tests.{eqb-true}
use Rattle.std.specs.Int.{w8, w32, w64}
use Rattle.wire_fields.specs.Field.{field_number, field_name}
use Rattle.wire_fields.specs.Laws.{IsBytes, TextStandsAt, IsField}
use Rattle.wire_fields.specs.Reading.{◌>>=◌, number_at}
use Rattle.wire_fields.specs.declared.fault.FieldFault.{FieldFault}
use Rattle.wire_fields.specs.declared.fault.FieldFault.TheVariants.{BadField}
use Rattle.wire_fields.proofs.Public.{ok_is, bind_ok, StandsAt-append, StandsAt-front, StandsAt-back, IsField-name, IsField-u8, IsField-u32, IsField-u64, IsField-pair, length-field_u8, length-field_u32, length-field_u64, length-field_name}
use Rattle.locket.specs.Bytes.{kind_of, fields_of, lock_spelled, FitsOp, FitsLock, acquire_at, term_at, renew_at, release_at, op_at, command_at, whole, lock_reading}
use Rattle.locket.specs.declared.command.LockCommand.{LockCommand}
use Rattle.locket.specs.declared.command.LockOp.{LockOp}
use Rattle.locket.specs.declared.command.LockOp.TheVariants.{Acquire, Renew, Release}

-- a reader at a place
abbrev Reader : Type 0 → Type 0
Reader X = List ℕ → ℕ → Result (X × ℕ) FieldFault

-- two values, one behind the other
abbrev two_at : {X Y Z : Type 0} → (X → Y → Z) → Reader X → Reader Y → Reader Z
two_at make first second bytes at = first bytes at >>= λ x. second bytes x.1 >>= λ y. Ok (make x.0 y.0, y.1)

-- ---- two fields

module _ {X Y Z : Type 0} {FitsX : X → Type 0} {FitsY : Y → Type 0} {s : X → List ℕ} {t : Y → List ℕ} {first : Reader X}
    {second : Reader Y} (make : X → Y → Z) (is : IsField FitsX s first) (js : IsField FitsY t second) where
  two_again : (bytes : List ℕ) (at : ℕ) (x : X) (y : Y) → FitsX x → FitsY y → TextStandsAt bytes at (s x ++ t y)
      → two_at make first second bytes at ≡ Ok (make x y, at + length (s x ++ t y))
  two_again bytes at x y fx fy stands =
      let e1 = is.again bytes at x fx (StandsAt-front bytes at (s x) (t y) stands) in
      let e2 = js.again bytes (at + length (s x)) y fy (StandsAt-back bytes at (s x) (t y) stands) in
      let place : at + length (s x) + length (t y) ≡ at + length (s x ++ t y) =
      omega (arith, length-append (s x) (t y)) in
      ap (λ (r : Result (X × ℕ) FieldFault). r >>= λ a. second bytes a.1 >>= λ b. Ok (make a.0 b.0, b.1)) e1
      ∙ ap (λ (r : Result (Y × ℕ) FieldFault). r >>= λ b. Ok (make x b.0, b.1)) e2
      ∙ ap (λ (n : ℕ). Ok (make x y, n)) place

  -- what was read so stands there
  pub record IsTwo (bytes : List ℕ) (at : ℕ) (z : Z) (after : ℕ) : Type 0 where
    pub one : X
    pub other : Y
    pub made : make one other ≡ z
    pub stands : TextStandsAt bytes at (s one ++ t other)
    pub place : after ≡ at + length (s one ++ t other)
    pub fits_one : FitsX one
    pub fits_other : FitsY other

  two_found : (bytes : List ℕ) (at : ℕ) (z : Z) (after : ℕ) → IsBytes bytes
      → two_at make first second bytes at ≡ Ok (z, after) → IsTwo bytes at z after
  two_found bytes at z after ib e =
      let x = bind_ok (first bytes at) (λ a. second bytes a.1 >>= λ b. Ok (make a.0 b.0, b.1)) (z, after) e in
      let y = bind_ok (second bytes x.0.1) (λ b. Ok (make x.0.0 b.0, b.1)) (z, after) x.2 in
      let front = is.spelled bytes at x.0.0 x.0.1 ib x.1 in
      let back = js.spelled bytes x.0.1 y.0.0 y.0.1 ib y.1 in
      let there : TextStandsAt bytes (at + length (s x.0.0)) (t y.0.0) =
      subst (λ (n : ℕ). TextStandsAt bytes n (t y.0.0)) front.1 back.0 in
      let pair : ◌≡◌ {A = Z × ℕ} (make x.0.0 y.0.0, y.0.1) (z, after) =
      ok_is {X = Z × ℕ} (make x.0.0 y.0.0, y.0.1) (z, after) y.2 in
      let place : y.0.1 ≡ at + length (s x.0.0 ++ t y.0.0) =
      omega (arith, length-append (s x.0.0) (t y.0.0), front.1, back.1) in
      record {
        one = x.0.0;
        other = y.0.0;
        made = ap (λ (p : Z × ℕ). p.0) pair;
        stands = StandsAt-append bytes at (s x.0.0) (t y.0.0) front.0 there;
        place = sym (ap (λ (p : Z × ℕ). p.1) pair) ∙ place;
        fits_one = front.2;
        fits_other = back.2;
      }

-- ---- the fields of an operation

term_field : IsField (λ (p : ℕ × ℕ). (p.0 < 2 ^ 64) × (p.1 < 2 ^ 32))
    (λ (p : ℕ × ℕ). field_number w64 p.0 ++ field_number w32 p.1) term_at
term_field = IsField-pair {Z = ℕ × ℕ} (λ x y. (x, y)) (λ p. p.0) (λ p. p.1)
    (record { made = λ z. refl; one_of = λ x y. refl; other_of = λ x y. refl }) IsField-u64 IsField-u32

abbrev renew_of : List ℕ → ℕ × ℕ → LockOp
renew_of owner term = Renew owner term.0 term.1

op_again : (op : LockOp) (bytes : List ℕ) (at : ℕ) → FitsOp op → TextStandsAt bytes at (fields_of op)
    → op_at (kind_of op) bytes at ≡ Ok (op, at + length (fields_of op))
op_again (Acquire owner ttl) bytes at fits stands = two_again {X = List ℕ} {Y = ℕ} {Z = LockOp}
    (λ o t. Acquire o t) IsField-name IsField-u32 bytes at owner ttl fits.0 fits.1 stands
op_again (Renew owner fence ttl) bytes at fits stands =
    two_again {X = List ℕ} {Y = ℕ × ℕ} {Z = LockOp} renew_of IsField-name term_field bytes at owner (fence, ttl) fits.0
    (fits.1, fits.2) stands
op_again (Release owner fence) bytes at fits stands = two_again {X = List ℕ} {Y = ℕ} {Z = LockOp}
    (λ o f. Release o f) IsField-name IsField-u64 bytes at owner fence fits.0 fits.1 stands

-- an operation that was read stands there, behind the number of its kind
record IsOpAt (kind : ℕ) (bytes : List ℕ) (at : ℕ) (op : LockOp) (after : ℕ) : Type 0 where
  kind_is : kind ≡ kind_of op
  stands : TextStandsAt bytes at (fields_of op)
  place : after ≡ at + length (fields_of op)
  fits : FitsOp op

acquire_found : (bytes : List ℕ) (at : ℕ) (op : LockOp) (after : ℕ) → IsBytes bytes
    → acquire_at bytes at ≡ Ok (op, after) → IsOpAt 32 bytes at op after
acquire_found bytes at op after ib e =
    let t = two_found {X = List ℕ} {Y = ℕ} {Z = LockOp} (λ o t. Acquire o t) IsField-name IsField-u32 bytes at op after
    ib e in
    subst (λ (o : LockOp). IsOpAt 32 bytes at o after) t.made
    (record { kind_is = refl; stands = t.stands; place = t.place; fits = (t.fits_one, t.fits_other) })

renew_found : (bytes : List ℕ) (at : ℕ) (op : LockOp) (after : ℕ) → IsBytes bytes → renew_at bytes at ≡ Ok (op, after)
    → IsOpAt 33 bytes at op after
renew_found bytes at op after ib e =
    let t = two_found {X = List ℕ} {Y = ℕ × ℕ} {Z = LockOp} renew_of IsField-name term_field bytes at op after ib e in
    subst (λ (o : LockOp). IsOpAt 33 bytes at o after) t.made
    (record {
      kind_is = refl;
      stands = t.stands;
      place = t.place;
      fits =
          (t.fits_one, t.fits_other.0, t.fits_other.1);
    })

release_found : (bytes : List ℕ) (at : ℕ) (op : LockOp) (after : ℕ) → IsBytes bytes
    → release_at bytes at ≡ Ok (op, after) → IsOpAt 34 bytes at op after
release_found bytes at op after ib e =
    let t = two_found {X = List ℕ} {Y = ℕ} {Z = LockOp} (λ o f. Release o f) IsField-name IsField-u64 bytes at op after
    ib e in
    subst (λ (o : LockOp). IsOpAt 34 bytes at o after) t.made
    (record { kind_is = refl; stands = t.stands; place = t.place; fits = (t.fits_one, t.fits_other) })

op_found : (kind : ℕ) (bytes : List ℕ) (at : ℕ) (op : LockOp) (after : ℕ) → IsBytes bytes
    → op_at kind bytes at ≡ Ok (op, after) → IsOpAt kind bytes at op after
op_found kind bytes at op after ib e = by_first (kind == 32) refl e
  where
    Read : Type 0
    Read = Result (LockOp × ℕ) FieldFault

    by_third : (b : Bool) → (kind == 34) ≡ b → ◌≡◌ {A = Read} (if b then release_at bytes at else Err (BadField 0))
        (Ok (op, after)) → IsOpAt kind bytes at op after
    by_third true is f = subst (λ (k : ℕ). IsOpAt k bytes at op after) (sym (eqb-true kind 34 is))
        (release_found bytes at op after ib f)
    by_third false is f = absurd cc

    by_second : (b : Bool) → (kind == 33) ≡ b → ◌≡◌ {A = Read}
        (if b then renew_at bytes at else (if kind == 34 then release_at bytes at else Err (BadField 0)))
        (Ok (op, after)) → IsOpAt kind bytes at op after
    by_second true is f = subst (λ (k : ℕ). IsOpAt k bytes at op after) (sym (eqb-true kind 33 is))
        (renew_found bytes at op after ib f)
    by_second false is f = by_third (kind == 34) refl f

    by_first : (b : Bool) → (kind == 32) ≡ b
        → ◌≡◌ {A = Read} (if b then acquire_at bytes at else
        (if kind == 33 then renew_at bytes at else (if kind == 34 then release_at bytes at else Err (BadField 0))))
        (Ok (op, after)) → IsOpAt kind bytes at op after
    by_first true is f = subst (λ (k : ℕ). IsOpAt k bytes at op after) (sym (eqb-true kind 32 is))
        (acquire_found bytes at op after ib f)
    by_first false is f = by_second (kind == 33) refl f

-- ---- a command

abbrev command_behind : List ℕ → ℕ × ℕ → ℕ × ℕ → Result (LockCommand × ℕ) FieldFault
command_behind bytes kind now = op_at kind.0 bytes now.1 >>= λ op.
    Ok (record { now = record { 0 = now.0 }; op = op.0 }, op.1)

kind_small : (op : LockOp) → kind_of op < 2 ^ 8
kind_small (Acquire owner ttl) = omega arith
kind_small (Renew owner fence ttl) = omega arith
kind_small (Release owner fence) = omega arith

front_again : (bytes : List ℕ) (c : LockCommand) → FitsLock c → TextStandsAt bytes 0 (lock_spelled c)
    → command_at bytes ≡ Ok (c, length (lock_spelled c))
unfolding lock_spelled command_at
front_again bytes c fits stands =
    let kind : List ℕ = field_number w8 (kind_of c.op) in
    let now : List ℕ = field_number w32 c.now.0 in
    let fields : List ℕ = fields_of c.op in
    let behind = StandsAt-back bytes 0 kind (now ++ fields) stands in
    let e1 = IsField-u8.again bytes 0 (kind_of c.op) (kind_small c.op)
    (StandsAt-front bytes 0 kind (now ++ fields) stands) in
    let e2 = IsField-u32.again bytes (0 + length kind) c.now.0 fits.now
    (StandsAt-front bytes (0 + length kind) now fields behind) in
    let e3 = op_again c.op bytes (0 + length kind + length now) fits.op
    (StandsAt-back bytes (0 + length kind) now fields behind) in
    let place : 0 + length kind + length now + length fields ≡ length (kind ++ (now ++ fields)) =
    omega (arith, length-append kind (now ++ fields), length-append now fields) in
    ap (λ (r : Result (ℕ × ℕ) FieldFault). r >>= λ k. number_at w32 bytes k.1 >>= command_behind bytes k) e1
    ∙ ap (λ (r : Result (ℕ × ℕ) FieldFault). r >>= command_behind bytes (kind_of c.op, 0 + length kind)) e2
    ∙ ap (λ (r : Result (LockOp × ℕ) FieldFault). r >>= λ op.
    Ok (record { now = record { 0 = c.now.0 }; op = op.0 }, op.1)) e3
    ∙ ap (λ (n : ℕ). Ok (c, n)) place

pub lock_again : (c : LockCommand) → FitsLock c → lock_reading (lock_spelled c) ≡ Some c
unfolding lock_reading
lock_again c fits =
    let text : List ℕ = lock_spelled c in
    let stands : TextStandsAt text 0 text = record { rest = []; parts = sym (append-nil text) } in
    ap (whole text) (front_again text c fits stands) ∙ ap (λ (b : Bool). if b then Some c else None)
    (eq-eqb (length text) (length text) refl)

-- a command that was read stands in front
record IsCommandAt (bytes : List ℕ) (c : LockCommand) (after : ℕ) : Type 0 where
  stands : TextStandsAt bytes 0 (lock_spelled c)
  place : after ≡ length (lock_spelled c)
  fits : FitsLock c

front_found : (bytes : List ℕ) (c : LockCommand) (after : ℕ) → IsBytes bytes → command_at bytes ≡ Ok (c, after)
    → IsCommandAt bytes c after
unfolding lock_spelled command_at
front_found bytes c after ib e =
    let k = bind_ok (number_at w8 bytes 0) (λ k. number_at w32 bytes k.1 >>= command_behind bytes k) (c, after) e in
    let n = bind_ok (number_at w32 bytes k.0.1) (command_behind bytes k.0) (c, after) k.2 in
    let o = bind_ok (op_at k.0.0 bytes n.0.1) (λ op. Ok (record { now = record { 0 = n.0.0 }; op = op.0 }, op.1))
    (c, after) n.2 in
    let kind = IsField-u8.spelled bytes 0 k.0.0 k.0.1 ib k.1 in
    let now = IsField-u32.spelled bytes k.0.1 n.0.0 n.0.1 ib n.1 in
    let op = op_found k.0.0 bytes n.0.1 o.0.0 o.0.1 ib o.1 in
    let made : LockCommand = record { now = record { 0 = n.0.0 }; op = o.0.0 } in
    let pair : ◌≡◌ {A = LockCommand × ℕ} (made, o.0.1) (c, after) =
    ok_is {X = LockCommand × ℕ} (made, o.0.1) (c, after) o.2 in
    let first : List ℕ = field_number w8 (kind_of o.0.0) in
    let second : List ℕ = field_number w32 n.0.0 in
    let third : List ℕ = fields_of o.0.0 in
    let first_stands : TextStandsAt bytes 0 first = subst
    (λ (m : ℕ). TextStandsAt bytes 0 (field_number w8 m)) op.kind_is kind.0 in
    let first_place : k.0.1 ≡ 0 + length first = kind.1 ∙ ap (λ (m : ℕ). 0 + length (field_number w8 m)) op.kind_is in
    let second_stands : TextStandsAt bytes (0 + length first) second =
    subst (λ (m : ℕ). TextStandsAt bytes m second) first_place now.0 in
    let second_place : n.0.1 ≡ 0 + length first + length second =
    now.1 ∙ ap (λ (m : ℕ). m + length second) first_place in
    let third_stands : TextStandsAt bytes (0 + length first + length second) third =
    subst (λ (m : ℕ). TextStandsAt bytes m third) second_place op.stands in
    let all = StandsAt-append bytes 0 first (second ++ third) first_stands
    (StandsAt-append bytes (0 + length first) second third second_stands third_stands) in
    let end : o.0.1 ≡ length (first ++ (second ++ third)) =
    omega (arith, op.place, second_place, length-append first (second ++ third), length-append second third) in
    let found : IsCommandAt bytes made o.0.1 = record {
      stands = all;
      place = end;
      fits =
          record { now = now.2; op = op.fits };
    } in
    subst (λ (p : LockCommand × ℕ). IsCommandAt bytes p.0 p.1) pair found

pub lock_known : (bytes : List ℕ) (c : LockCommand) → IsBytes bytes → lock_reading bytes ≡ Some c
    → (bytes ≡ lock_spelled c) × FitsLock c
unfolding lock_reading
lock_known bytes c ib e = by_reading (command_at bytes) refl e
  where
    ends : (read : LockCommand × ℕ) → command_at bytes ≡ Ok read → (b : Bool) → (read.1 == length bytes) ≡ b
        → (if b then Some read.0 else None) ≡ Some c → (bytes ≡ lock_spelled c) × FitsLock c
    ends read is true same f =
        let found = front_found bytes read.0 read.1 ib is in
        let c_is : read.0 ≡ c = cc in
        let len : length (lock_spelled read.0) ≡ length bytes = sym found.place ∙ eqb-true read.1 (length bytes) same in
        let rest : found.stands.rest ≡ [] = no_rest bytes (lock_spelled read.0) found.stands.rest found.stands.parts len
        in
        subst (λ (d : LockCommand). (bytes ≡ lock_spelled d) × FitsLock d) c_is (
          found.stands.parts ∙ ap (λ (l : List ℕ). lock_spelled read.0 ++ l) rest ∙ append-nil (lock_spelled read.0),
          found.fits,
        )
      where
        empty : (l : List ℕ) → length l ≡ 0 → l ≡ []
        empty [] is = refl
        empty (x ∷ l) is = absurd (omega (arith, is))

        no_rest : (all text rest : List ℕ) → all ≡ text ++ rest → length text ≡ length all → rest ≡ []
        no_rest all text rest parts len = empty rest (omega (arith, len, ap length parts, length-append text rest))
    ends read is false same f = absurd cc

    by_reading : (r : Result (LockCommand × ℕ) FieldFault) → command_at bytes ≡ r → whole bytes r ≡ Some c
        → (bytes ≡ lock_spelled c) × FitsLock c
    by_reading (Ok read) is f = ends read is (read.1 == length bytes) refl f
    by_reading (Err fault) is f = absurd cc

-- ---- how long it is

op_length : (op : LockOp) → FitsOp op → (6 ≤ length (fields_of op)) × (length (fields_of op) ≤ 93)
op_length (Acquire owner ttl) fits =
    let least = fits.0.not_empty in
    let most = fits.0.not_too_long in (
      omega (
        arith,
        length-append (field_name owner) (field_number w32 ttl),
        length-field_name owner,
        length-field_u32 ttl,
        least,
      ),
      omega (
        arith,
        length-append (field_name owner) (field_number w32 ttl),
        length-field_name owner,
        length-field_u32 ttl,
        most,
      ),
    )
op_length (Renew owner fence ttl) fits =
    let least = fits.0.not_empty in
    let most = fits.0.not_too_long in
    let behind = length-append (field_number w64 fence) (field_number w32 ttl) in (
      omega (
        arith,
        length-append (field_name owner) (field_number w64 fence ++ field_number w32 ttl),
        behind,
        length-field_name owner,
        length-field_u64 fence,
        length-field_u32 ttl,
        least,
      ),
      omega (
        arith,
        length-append (field_name owner) (field_number w64 fence ++ field_number w32 ttl),
        behind,
        length-field_name owner,
        length-field_u64 fence,
        length-field_u32 ttl,
        most,
      ),
    )
op_length (Release owner fence) fits =
    let least = fits.0.not_empty in
    let most = fits.0.not_too_long in (
      omega (
        arith,
        length-append (field_name owner) (field_number w64 fence),
        length-field_name owner,
        length-field_u64 fence,
        least,
      ),
      omega (
        arith,
        length-append (field_name owner) (field_number w64 fence),
        length-field_name owner,
        length-field_u64 fence,
        most,
      ),
    )

pub lock_length : (c : LockCommand) → FitsLock c → (11 ≤ length (lock_spelled c)) × (length (lock_spelled c) ≤ 98)
unfolding lock_spelled
lock_length c fits =
    let kind : List ℕ = field_number w8 (kind_of c.op) in
    let now : List ℕ = field_number w32 c.now.0 in
    let fields : List ℕ = fields_of c.op in
    let op = op_length c.op fits.op in (
      omega (
        arith,
        length-append kind (now ++ fields),
        length-append now fields,
        length-field_u8 (kind_of c.op),
        length-field_u32 c.now.0,
        op.0,
      ),
      omega (
        arith,
        length-append kind (now ++ fields),
        length-append now fields,
        length-field_u8 (kind_of c.op),
        length-field_u32 c.now.0,
        op.1,
      ),
    )
