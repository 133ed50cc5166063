-- The version behind a header gate, as it is written and as it is read.
use Rattle.std.specs.Prelude.{if◌then◌else◌, ◌==◌, nat_lt, nat_eq}
use Rattle.std.specs.List.{starts_with}
use Rattle.std.proofs.Common.{◌≡◌, ◌⊎◌, ⊎_elim, inl, inr, ℕ, ◌+◌, ◌≤◌, Bool, true, false, Option, Some, None, List, ◌++◌, length, take, drop, refl, sym, ap, ◌∙◌, subst, arith, length-append, length-drop, take_at, drop_at, take-add}
use Rattle.std.specs.Int.{w16, w64, from_be_bytes}
use Rattle.std.proofs.lemmas.Bool.Decides.{nat_tests, Decides-eqb}
use Rattle.std.proofs.lemmas.Slice.Eq.{starts_is}
use Rattle.wire_fields.specs.Field.{field_number}
use Rattle.wire_fields.proofs.Public.{length-field_number}
use Rattle.bbs_journal.specs.Header.{IsVersion, magic, mark, version_of, by_version, behind_gate}
use Rattle.bbs_journal.specs.declared.header.Header.TheVariants.{Closed, Cut, Open}
use Rattle.bbs_journal.specs.declared.other_gate.OtherGate.TheVariants.{Loose}

pub length-mark : (version : ℕ) → length (mark version) ≡ 10
length-mark version = omega (arith, length-append magic (field_number w16 version), length-field_number w16 version)

pub take_mark : (version n : ℕ) (rest : List ℕ) → take (10 + n) (mark version ++ rest) ≡ mark version ++ take n rest
take_mark version n rest =
    take-add 10 n (mark version ++ rest)
    ∙ ap (λ (l : List ℕ). l ++ take n (drop 10 (mark version ++ rest)))
    (take_at (mark version) rest 10 (length-mark version))
    ∙ ap (λ (l : List ℕ). mark version ++ take n l) (drop_at (mark version) rest 10 (length-mark version))

one_read : (rest : List ℕ) → version_of (mark 1 ++ rest) ≡ Some 1
unfolding version_of field_number
one_read rest = refl

two_read : (rest : List ℕ) → version_of (mark 2 ++ rest) ≡ Some 2
unfolding version_of field_number
two_read rest = refl

-- a version that is read is found where its mark stands
pub version_read : (version : ℕ) (rest : List ℕ) → IsVersion version → version_of (mark version ++ rest) ≡ Some version
version_read version rest (inl is) = subst (λ (v : ℕ). version_of (mark v ++ rest) ≡ Some v) (sym is) (one_read rest)
version_read version rest (inr is) = subst (λ (v : ℕ). version_of (mark v ++ rest) ≡ Some v) (sym is) (two_read rest)

by_tests : (a c : Bool) (n m version : ℕ) → a ≡ false → c ≡ false
    → (if a then Closed Loose else (if c then Cut m else Open version n)) ≡ Open version n
by_tests a c n m version first second = rw (first, second) refl

-- behind an open gate, magic and version
pub mark_read : (version generation : ℕ) (rest : List ℕ) → IsVersion version → 8 ≤ length rest
    → from_be_bytes w64 (take 8 rest) ≡ generation → behind_gate (mark version ++ rest) ≡ Open version generation
unfolding behind_gate
mark_read version generation rest is long number =
    let bytes : List ℕ = mark version ++ rest in
    let size : length bytes ≡ 10 + length rest = omega (arith, length-append (mark version) rest, length-mark version)
    in
    ap (λ (v : Option ℕ). if length bytes == 0 then Closed Loose else by_version v bytes) (version_read version rest is)
    ∙ by_tests (length bytes == 0) (nat_lt (length bytes) 18) (from_be_bytes w64 (take 8 (drop 10 bytes)))
    (1 + length bytes) version (grind (arith, nat_tests)) (grind (arith, nat_tests))
    ∙ ap (Open version) (ap (λ (l : List ℕ). from_be_bytes w64 (take 8 l))
    (drop_at (mark version) rest 10 (length-mark version)) ∙ number)

-- what an open header tells: its mark, and its generation
pub record IsMarked (version generation : ℕ) (bytes : List ℕ) : Type 0 where
  pub version_is : IsVersion version
  pub rest : List ℕ
  pub parts : bytes ≡ mark version ++ rest
  pub number : from_be_bytes w64 (take 8 rest) ≡ generation
  pub long : 8 ≤ length rest

by_start : (a b : Bool) (version : ℕ) → (if a then Some 1 else (if b then Some 2 else None)) ≡ Some version
    → ((a ≡ true) × (version ≡ 1)) ⊎ ((b ≡ true) × (version ≡ 2))
by_start true b version is = inl (refl, cc)
by_start false true version is = inr (refl, cc)
by_start false false version is = absurd (cc)

begins_so : (version : ℕ) (bytes : List ℕ) → starts_with nat_eq bytes (mark version) ≡ true
    → bytes ≡ mark version ++ drop 10 bytes
begins_so version bytes is =
    let begins = starts_is Decides-eqb bytes (mark version) (starts_with nat_eq bytes (mark version)) refl in
    begins.0 is ∙ ap (λ (n : ℕ). mark version ++ drop n bytes) (length-mark version)

-- where a version is read, its mark stands
marked_by : (version : ℕ) (bytes : List ℕ) → version_of bytes ≡ Some version
    → IsVersion version × (bytes ≡ mark version ++ drop 10 bytes)
unfolding version_of
marked_by version bytes is = ⊎_elim
    (λ one. (inl one.1, subst (λ (v : ℕ). bytes ≡ mark v ++ drop 10 bytes) (sym one.1) (begins_so 1 bytes one.0)))
    (λ two. (inr two.1, subst (λ (v : ℕ). bytes ≡ mark v ++ drop 10 bytes) (sym two.1) (begins_so 2 bytes two.0)))
    (by_start (starts_with nat_eq bytes (mark 1)) (starts_with nat_eq bytes (mark 2)) version is)

by_length : (c : Bool) (n m v generation version : ℕ) → (if c then Cut m else Open v n) ≡ Open version generation
    → (v ≡ version) × (c ≡ false) × (n ≡ generation)
by_length true n m v generation version is = absurd (cc)
by_length false n m v generation version is = (cc, refl, cc)

by_header : (a : Bool) (read : Option ℕ) (bytes : List ℕ) (version generation : ℕ)
    → (if a then Closed Loose else by_version read bytes) ≡ Open version generation
    → (read ≡ Some version) × (nat_lt (length bytes) 18 ≡ false)
    × (from_be_bytes w64 (take 8 (drop 10 bytes)) ≡ generation)
by_header true read bytes version generation is = absurd (cc)
by_header false None bytes version generation is = absurd (cc)
by_header false (Some v) bytes version generation is =
    let tests = by_length (nat_lt (length bytes) 18) (from_be_bytes w64 (take 8 (drop 10 bytes)))
    (1 + length bytes) v generation version is in
    (ap Some tests.0, tests.1, tests.2)

pub marked : (version generation : ℕ) (bytes : List ℕ) → behind_gate bytes ≡ Open version generation
    → IsMarked version generation bytes
unfolding behind_gate
marked version generation bytes is =
    let tests = by_header (length bytes == 0) (version_of bytes) bytes version generation is in
    let long : 18 ≤ length bytes = let t = tests.1 in grind (arith, nat_tests) in
    let begins = marked_by version bytes tests.0 in
    record {
      version_is = begins.0;
      rest = drop 10 bytes;
      parts = begins.1;
      number = tests.2;
      long =
          omega (arith, long, length-drop 10 bytes);
    }
