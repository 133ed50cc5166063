-- What is read ends within the bytes.
use Rattle.std.proofs.Common.{◌≡◌, ℕ, suc, ◌+◌, ◌≤◌, Bool, true, false, cond, ltb, eqb, ◌||◌, List, [], ◌∷◌, length, take, drop, Some, None, Result, Ok, Err, refl, arith, length-drop, IfOk}
use Rattle.std.specs.Prelude.{slice_index_or}
use Rattle.std.specs.Int.{Width, byte_len, from_be_bytes, w8, w32, w64}
use Rattle.std.specs.List.{list_all}
use Rattle.std.proofs.lemmas.Bool.{ltb-false}
use Rattle.diego_names.specs.Name.{is_name_byte}
use Rattle.wire_fields.specs.Front.{Front, Holds, Ends, Bad, front_map, number_front, name_bytes_front, name_front, optional_name_front, truth_front}
use Rattle.wire_fields.specs.Reading.{◌>>=◌, field_placed, number_at, name_at, optional_name_at, truth_at, instance_at}
use Rattle.wire_fields.specs.declared.fault.FieldFault.{FieldFault}
use Rattle.bbs_codec.specs.Format.{seen_at, both_at}
use Rattle.bbs_codec.specs.RowFormats.{Reads, alone, case_at}
use Rattle.bbs_codec.proofs.Public.{none_at}

-- a value in front takes at most so many bytes
abbrev TakesAtMost : {X : Type 0} → ℕ → Front X → Type 0
TakesAtMost most (Holds x n) = n ≤ most
TakesAtMost most Ends = Unit {0}
TakesAtMost most Bad = Unit {0}

either : {X : Type 0} (most : ℕ) (b : Bool) (f g : Front X) → (b ≡ true → TakesAtMost most f)
    → (b ≡ false → TakesAtMost most g) → TakesAtMost most (cond b f g)
either most true f g h k = h refl
either most false f g h k = k refl

number_takes : (w : Width) (bytes : List ℕ) → TakesAtMost (length bytes) (number_front w bytes)
number_takes w bytes =
    either (length bytes) (ltb (length bytes) (byte_len w)) Ends
    (Holds (from_be_bytes w (take (byte_len w) bytes)) (byte_len w))
    (λ e. tt) (λ e. ltb-false (length bytes) (byte_len w) e)

name_bytes_take : (len : ℕ) (rest : List ℕ) → TakesAtMost (suc (length rest)) (name_bytes_front len rest)
name_bytes_take len rest =
    let most : ℕ = suc (length rest) in
    let name : Front (List ℕ) = Holds (take len rest) (1 + len) in
    either most (ltb (length rest) len) Ends (cond (list_all is_name_byte (take len rest)) name Bad) (λ e. tt)
    (λ e. let le : len ≤ length rest = ltb-false (length rest) len e in
    either most (list_all is_name_byte (take len rest)) name Bad (λ _. omega arith) (λ _. tt))

name_takes : (bytes : List ℕ) → TakesAtMost (length bytes) (name_front bytes)
name_takes [] = tt
name_takes (len ∷ rest) = either (suc (length rest)) (eqb len 0 || ltb 80 len) Bad (name_bytes_front len rest) (λ _. tt)
    (λ _. name_bytes_take len rest)

map_takes : {X Y : Type 0} (most : ℕ) (f : X → Y) (front : Front X) → TakesAtMost most front
    → TakesAtMost most (front_map f front)
map_takes most f (Holds x n) le = le
map_takes most f Ends le = tt
map_takes most f Bad le = tt

optional_name_takes : (bytes : List ℕ) → TakesAtMost (length bytes) (optional_name_front bytes)
optional_name_takes [] = tt
optional_name_takes (len ∷ rest) =
    let most : ℕ = suc (length rest) in
    either most (eqb len 0) (Holds None 1) (front_map Some (name_front (len ∷ rest))) (λ _. omega arith)
    (λ _. map_takes most Some (name_front (len ∷ rest)) (name_takes (len ∷ rest)))

truth_takes : (bytes : List ℕ) → TakesAtMost (length bytes) (truth_front bytes)
truth_takes [] = tt
truth_takes (b ∷ rest) =
    let most : ℕ = suc (length rest) in
    either most (eqb b 0) (Holds false 1) (cond (eqb b 1) (Holds true 1) Bad) (λ _. omega arith)
    (λ _. either most (eqb b 1) (Holds true 1) Bad (λ _. omega arith) (λ _. tt))

-- what is read at a place within the bytes ends within them
pub record IsWithin {X : Type 0} (read : Reads X) : Type 0 where
  pub ends : (bytes : List ℕ) (at : ℕ) → at ≤ length bytes → IfOk (read bytes at) (λ r. r.1 ≤ length bytes)

placed_within : {X : Type 0} (bytes : List ℕ) (at : ℕ) (front : Front X) → at ≤ length bytes
    → TakesAtMost (length (drop at bytes)) front
    → IfOk (field_placed bytes at front) (λ r. r.1 ≤ length bytes)
placed_within bytes at (Holds x n) le most = omega (arith, length-drop at bytes)
placed_within bytes at Ends le most = tt
placed_within bytes at Bad le most = tt

bind_within : {A B : Type 0} (bytes : List ℕ) (r : Result (A × ℕ) FieldFault) (f : A × ℕ → Result (B × ℕ) FieldFault)
    → IfOk r (λ x. x.1 ≤ length bytes)
    → ((x : A × ℕ) → x.1 ≤ length bytes → IfOk (f x) (λ y. y.1 ≤ length bytes))
    → IfOk (r >>= f) (λ y. y.1 ≤ length bytes)
bind_within bytes (Ok x) f h more = more x h
bind_within bytes (Err fault) f h more = tt

pub within-number : (w : Width) → IsWithin (number_at w)
unfolding number_at
within-number w = record {
  ends = λ bytes at le. placed_within bytes at (number_front w (drop at bytes)) le
      (number_takes w (drop at bytes));
}

pub within-name : IsWithin name_at
unfolding name_at
within-name = record {
  ends = λ bytes at le. placed_within bytes at (name_front (drop at bytes)) le
      (name_takes (drop at bytes));
}

pub within-optional_name : IsWithin optional_name_at
unfolding optional_name_at
within-optional_name = record {
  ends = λ bytes at le. placed_within bytes at (optional_name_front (drop at bytes)) le
      (optional_name_takes (drop at bytes));
}

pub within-truth : IsWithin truth_at
unfolding truth_at
within-truth = record {
  ends = λ bytes at le. placed_within bytes at (truth_front (drop at bytes)) le
      (truth_takes (drop at bytes));
}

pub within-seen : {X Y : Type 0} {read : Reads X} (make : X → Y) → IsWithin read → IsWithin (seen_at make read)
unfolding seen_at
within-seen {read = read} make is = record {
  ends = λ bytes at le. bind_within bytes (read bytes at) (λ x. Ok (make x.0, x.1)) (is.ends bytes at le) (λ x h. h);
}

pub within-both : {X Y : Type 0} {first : Reads X} {second : Reads Y} → IsWithin first → IsWithin second
    → IsWithin (both_at first second)
within-both {first = first} {second = second} is js = record {
  ends = λ bytes at le. bind_within bytes (first bytes at) (λ x. second bytes x.1 >>= λ y. Ok ((x.0, y.0), y.1))
      (is.ends bytes at le)
      (λ x h. bind_within bytes (second bytes x.1) (λ y. Ok ((x.0, y.0), y.1)) (js.ends bytes x.1 h) (λ y k. k));
}

pub within-three : {X Y Z : Type 0} {first : Reads X} {second : Reads Y} {third : Reads Z} → IsWithin first
    → IsWithin second → IsWithin third
    → IsWithin {X = X × Y × Z} (seen_at (λ p. (p.0, p.1.0, p.1.1)) (both_at first (both_at second third)))
within-three is js ks = within-seen _ (within-both is (within-both js ks))

pub within-instance : IsWithin instance_at
unfolding instance_at
within-instance = record {
  ends = λ bytes at le. bind_within bytes (number_at w64 bytes at)
      (λ e. number_at w32 bytes e.1 >>= λ n. Ok (record { epoch = e.0; number = n.0 }, n.1))
      ((within-number w64).ends bytes at le)
      (λ e h. bind_within bytes (number_at w32 bytes e.1) (λ n. Ok (record { epoch = e.0; number = n.0 }, n.1))
      ((within-number w32).ends bytes e.1 h) (λ n k. k));
}

pub within-none : {X : Type 0} (place : ℕ) → IsWithin {X = X} (none_at place)
within-none place = record { ends = λ bytes at le. tt }

pub within-alone : {X : Type 0} (x : X) → IsWithin (alone x)
within-alone x = record { ends = λ bytes at le. le }

pub within-cases : {X : Type 0} (readers : List (Reads X))
    → ((place n : ℕ) → IsWithin (slice_index_or readers n (none_at place))) → IsWithin (case_at readers)
within-cases readers each = record {
  ends = λ bytes at le. bind_within bytes (number_at w8 bytes at)
      (λ n. slice_index_or readers n.0 (none_at at) bytes n.1) ((within-number w8).ends bytes at le)
      (λ n h. (each at n.0).ends bytes n.1 h);
}
