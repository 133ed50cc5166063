-- A field that stands in front takes few bytes, and is told by them whatever stands behind. It serves the law that a head
-- which is too long is told by its first bytes.
use Rattle.std.proofs.Common.{◌≡◌, ℕ, suc, ◌+◌, ◌≤◌, Bool, true, false, cond, ltb, eqb, ◌||◌, List, [], ◌∷◌, ◌++◌, length, take, Some, None, refl, sym, ap, subst, ◌∙◌, arith, length-append}
use Rattle.std.specs.Int.{Width, byte_len, from_be_bytes}
use Rattle.std.specs.List.{list_all}
use Rattle.std.proofs.lemmas.Bool.Decides.{nat_tests}
use Rattle.std.proofs.lemmas.List.{take-append-le}
use Rattle.diego_names.specs.Name.{is_name_byte}
use Rattle.wire_fields.specs.Front.{Front, Holds, Ends, Bad, front_map, number_front, name_bytes_front, name_front, optional_name_front, truth_front}

-- a value in front takes at most so many bytes
abbrev pub TakesFew : {X : Type 0} → ℕ → Front X → Type 0
TakesFew most (Holds x n) = n ≤ most
TakesFew most Ends = Unit {0}
TakesFew most Bad = Unit {0}

-- the bytes don't end within it
abbrev pub IsWhole : {X : Type 0} → Front X → Type 0
IsWhole (Holds x n) = Unit {0}
IsWhole Ends = ⊥
IsWhole Bad = Unit {0}

-- so many bytes tell what stands in front of them
pub record IsShort {X : Type 0} (most : ℕ) (front : List ℕ → Front X) : Type 0 where
  pub same : (bytes rest : List ℕ) → most ≤ length bytes → front (bytes ++ rest) ≡ front bytes
  pub whole : (bytes : List ℕ) → most ≤ length bytes → IsWhole (front bytes)
  pub takes : (bytes : List ℕ) → TakesFew most (front bytes)

by_test : {A : Type 0} (P : A → Type 0) (b : Bool) (f g : A) → (b ≡ true → P f) → (b ≡ false → P g) → P (cond b f g)
by_test P true f g h k = h refl
by_test P false f g h k = k refl

not_less : (n k : ℕ) → k ≤ n → ltb n k ≡ false
not_less n k le = grind (arith, nat_tests, le)

-- a front behind a test of the length that is passed
passed : {X : Type 0} (n k : ℕ) (front : Front X) → k ≤ n → cond (ltb n k) Ends front ≡ front
passed n k front le = ap (λ (b : Bool). cond b Ends front) (not_less n k le)

-- ---- numbers

number_of : Width → List ℕ → Front ℕ
number_of w taken = Holds (from_be_bytes w taken) (byte_len w)

number_is : (w : Width) (bytes : List ℕ) → byte_len w ≤ length bytes
    → number_front w bytes ≡ Holds (from_be_bytes w (take (byte_len w) bytes)) (byte_len w)
number_is w bytes le =
    passed (length bytes) (byte_len w) (Holds (from_be_bytes w (take (byte_len w) bytes)) (byte_len w)) le

pub short-number : (w : Width) → IsShort (byte_len w) (number_front w)
short-number w = record {
  same = λ bytes rest le.
      number_is w (bytes ++ rest) (omega (arith, le, length-append bytes rest))
      ∙ ap (λ (l : List ℕ). Holds (from_be_bytes w l) (byte_len w)) (take-append-le (byte_len w) bytes rest le)
      ∙ sym (number_is w bytes le);
  whole = λ bytes le. subst IsWhole (sym (number_is w bytes le)) tt;
  takes = λ bytes. by_test (TakesFew (byte_len w)) (ltb (length bytes) (byte_len w)) Ends
      (Holds (from_be_bytes w (take (byte_len w) bytes)) (byte_len w)) (λ _. tt) (λ _. omega arith);
}

-- ---- names

abbrev name_of : ℕ → List ℕ → Front (List ℕ)
name_of len taken = cond (list_all is_name_byte taken) (Holds taken (1 + len)) Bad

name_bytes_is : (len : ℕ) (bytes : List ℕ) → len ≤ length bytes
    → name_bytes_front len bytes ≡ name_of len (take len bytes)
name_bytes_is len bytes le = passed (length bytes) len (name_of len (take len bytes)) le

-- a length that no name has
abbrev is_no_length : ℕ → Bool
is_no_length len = eqb len 0 || ltb 80 len

few : (len : ℕ) → is_no_length len ≡ false → len ≤ 80
few len e = grind (arith, nat_tests, e)

name_same : (len : ℕ) (bytes rest : List ℕ) → 80 ≤ length bytes → (b : Bool) → is_no_length len ≡ b
    → cond b Bad (name_bytes_front len (bytes ++ rest)) ≡ cond b Bad (name_bytes_front len bytes)
name_same len bytes rest le true e = refl
name_same len bytes rest le false e =
    let most = few len e in
    let enough : len ≤ length bytes = omega (arith, most, le) in
    name_bytes_is len (bytes ++ rest) (omega (arith, enough, length-append bytes rest))
    ∙ ap (name_of len) (take-append-le len bytes rest enough)
    ∙ sym (name_bytes_is len bytes enough)

name_whole : (len : ℕ) (bytes : List ℕ) → 80 ≤ length bytes → is_no_length len ≡ false
    → IsWhole (name_bytes_front len bytes)
name_whole len bytes le e =
    let most = few len e in
    let taken : List ℕ = take len bytes in
    subst IsWhole (sym (name_bytes_is len bytes (omega (arith, most, le))))
    (by_test IsWhole (list_all is_name_byte taken) (Holds taken (1 + len)) Bad (λ _. tt) (λ _. tt))

name_takes : (len : ℕ) (bytes : List ℕ) → is_no_length len ≡ false → TakesFew 81 (name_bytes_front len bytes)
name_takes len bytes e =
    let most = few len e in
    let taken : List ℕ = take len bytes in
    by_test (TakesFew 81) (ltb (length bytes) len) Ends (name_of len taken) (λ _. tt)
    (λ _. by_test (TakesFew 81) (list_all is_name_byte taken) (Holds taken (1 + len)) Bad (λ _. omega (arith, most))
    (λ _. tt))

name_front_same : (bytes rest : List ℕ) → 81 ≤ length bytes → name_front (bytes ++ rest) ≡ name_front bytes
name_front_same [] rest le = absurd (omega (arith, le))
name_front_same (len ∷ bytes) rest le = name_same len bytes rest (omega (arith, le)) (is_no_length len) refl

name_front_whole : (bytes : List ℕ) → 81 ≤ length bytes → IsWhole (name_front bytes)
name_front_whole [] le = absurd (omega (arith, le))
name_front_whole (len ∷ bytes) le =
    by_test IsWhole (is_no_length len) Bad (name_bytes_front len bytes) (λ _. tt)
    (λ e. name_whole len bytes (omega (arith, le)) e)

name_front_takes : (bytes : List ℕ) → TakesFew 81 (name_front bytes)
name_front_takes [] = tt
name_front_takes (len ∷ bytes) =
    by_test (TakesFew 81) (is_no_length len) Bad (name_bytes_front len bytes) (λ _. tt)
    (λ e. name_takes len bytes e)

pub short-name : IsShort 81 name_front
short-name = record { same = name_front_same; whole = name_front_whole; takes = name_front_takes }

-- ---- names that may be none

map_whole : {X Y : Type 0} (f : X → Y) (front : Front X) → IsWhole front → IsWhole (front_map f front)
map_whole f (Holds x n) h = tt
map_whole f Ends h = absurd h
map_whole f Bad h = tt

map_takes : {X Y : Type 0} (most : ℕ) (f : X → Y) (front : Front X) → TakesFew most front
    → TakesFew most (front_map f front)
map_takes most f (Holds x n) le = le
map_takes most f Ends le = tt
map_takes most f Bad le = tt

optional_same : (bytes rest : List ℕ) → 81 ≤ length bytes
    → optional_name_front (bytes ++ rest) ≡ optional_name_front bytes
optional_same [] rest le = absurd (omega (arith, le))
optional_same (len ∷ bytes) rest le =
    ap (λ (f : Front (List ℕ)). cond (eqb len 0) (Holds None 1) (front_map Some f))
    (name_front_same (len ∷ bytes) rest le)

optional_whole : (bytes : List ℕ) → 81 ≤ length bytes → IsWhole (optional_name_front bytes)
optional_whole [] le = absurd (omega (arith, le))
optional_whole (len ∷ bytes) le =
    by_test IsWhole (eqb len 0) (Holds None 1) (front_map Some (name_front (len ∷ bytes))) (λ _. tt)
    (λ _. map_whole Some (name_front (len ∷ bytes)) (name_front_whole (len ∷ bytes) le))

optional_takes : (bytes : List ℕ) → TakesFew 81 (optional_name_front bytes)
optional_takes [] = tt
optional_takes (len ∷ bytes) =
    by_test (TakesFew 81) (eqb len 0) (Holds None 1) (front_map Some (name_front (len ∷ bytes))) (λ _. omega arith)
    (λ _. map_takes 81 Some (name_front (len ∷ bytes)) (name_front_takes (len ∷ bytes)))

pub short-optional_name : IsShort 81 optional_name_front
short-optional_name = record { same = optional_same; whole = optional_whole; takes = optional_takes }

-- ---- truth values

abbrev second_truth : ℕ → Front Bool
second_truth b = cond (eqb b 1) (Holds true 1) Bad

truth_same : (bytes rest : List ℕ) → 1 ≤ length bytes → truth_front (bytes ++ rest) ≡ truth_front bytes
truth_same [] rest le = absurd (omega (arith, le))
truth_same (b ∷ bytes) rest le = refl

truth_whole : (bytes : List ℕ) → 1 ≤ length bytes → IsWhole (truth_front bytes)
truth_whole [] le = absurd (omega (arith, le))
truth_whole (b ∷ bytes) le =
    by_test IsWhole (eqb b 0) (Holds false 1) (second_truth b) (λ _. tt)
    (λ _. by_test IsWhole (eqb b 1) (Holds true 1) Bad (λ _. tt) (λ _. tt))

truth_takes : (bytes : List ℕ) → TakesFew 1 (truth_front bytes)
truth_takes [] = tt
truth_takes (b ∷ bytes) =
    by_test (TakesFew 1) (eqb b 0) (Holds false 1) (second_truth b) (λ _. omega arith)
    (λ _. by_test (TakesFew 1) (eqb b 1) (Holds true 1) Bad (λ _. omega arith) (λ _. tt))

pub short-truth : IsShort 1 truth_front
short-truth = record { same = truth_same; whole = truth_whole; takes = truth_takes }
