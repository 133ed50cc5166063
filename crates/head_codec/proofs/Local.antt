-- What is read at a place looks at few bytes, all of them from there on. It serves the law that a head which is too long
-- is told by its first bytes.
use Rattle.std.proofs.Common.{◌≡◌, ℕ, suc, ◌+◌, ◌≤◌, List, ◌++◌, length, drop, Result, Ok, Err, refl, sym, ap, subst, ◌∙◌, arith, length-drop, length-append, IfOk}
use Rattle.std.specs.Prelude.{slice_index_or}
use Rattle.std.specs.Int.{Width, byte_len, w8, w32, w64}
use Rattle.std.proofs.lemmas.List.{drop-append-le}
use Rattle.wire_fields.specs.Front.{Front, Holds, Ends, Bad, number_front, name_front, optional_name_front, truth_front}
use Rattle.wire_fields.specs.Reading.{◌>>=◌, field_placed, number_at, name_at, optional_name_at, truth_at, instance_at}
use Rattle.bbs_codec.specs.Format.{seen_at, both_at}
use Rattle.bbs_codec.specs.RowFormats.{Reads, alone, case_at}
use Rattle.bbs_codec.proofs.Public.{none_at}
use Rattle.head_codec.proofs.Fronts.{TakesFew, IsWhole, IsShort, short-number, short-name, short-optional_name, short-truth}

-- it takes so many bytes at most, and where these are there nothing behind them is looked at
pub record IsLocal {X : Type 0} (most : ℕ) (read : Reads X) : Type 0 where
  pub same : (bytes rest : List ℕ) (at : ℕ) → at + most ≤ length bytes → read (bytes ++ rest) at ≡ read bytes at
  pub ends : (bytes : List ℕ) (at : ℕ) → IfOk (read bytes at) (λ r. r.1 ≤ at + most)

-- ---- one behind the other

-- one after another, where the first answers the same and each good value of it is gone on with in the same way
pub bind_same : {A B E : Type 0} (good : A → Type 0) (r s : Result A E) (f g : A → Result B E) → r ≡ s → IfOk s good
    → ((x : A) → good x → f x ≡ g x) → (r >>= f) ≡ (s >>= g)
bind_same good r (Ok x) f g e h more = ap (λ t. t >>= f) e ∙ more x h
bind_same good r (Err fault) f g e h more = ap (λ t. t >>= f) e

pub bind_good : {A B E : Type 0} (good : A → Type 0) (fine : B → Type 0) (r : Result A E) (f : A → Result B E)
    → IfOk r good → ((x : A) → good x → IfOk (f x) fine) → IfOk (r >>= f) fine
bind_good good fine (Ok x) f h more = more x h
bind_good good fine (Err fault) f h more = tt

-- ---- fields

placed_same : {X : Type 0} (b c : List ℕ) (at : ℕ) (f g : Front X) → f ≡ g → IsWhole g
    → field_placed b at f ≡ field_placed c at g
placed_same b c at f (Holds x n) e h = ap (λ x. field_placed b at x) e
placed_same b c at f Ends e h = absurd h
placed_same b c at f Bad e h = ap (λ x. field_placed b at x) e

placed_ends : {X : Type 0} (most : ℕ) (bytes : List ℕ) (at : ℕ) (f : Front X) → TakesFew most f
    → IfOk (field_placed bytes at f) (λ r. r.1 ≤ at + most)
placed_ends most bytes at (Holds x n) le = omega (arith, le)
placed_ends most bytes at Ends le = tt
placed_ends most bytes at Bad le = tt

local-placed : {X : Type 0} (most : ℕ) (front : List ℕ → Front X) → IsShort most front
    → IsLocal most (λ bytes at. field_placed bytes at (front (drop at bytes)))
local-placed most front is = record {
  same = λ bytes rest at le.
      let enough : most ≤ length (drop at bytes) = omega (arith, le, length-drop at bytes) in
      placed_same (bytes ++ rest) bytes at (front (drop at (bytes ++ rest))) (front (drop at bytes))
      (ap front (drop-append-le at bytes rest (omega (arith, le))) ∙ is.same (drop at bytes) rest enough)
      (is.whole (drop at bytes) enough);
  ends = λ bytes at. placed_ends most bytes at (front (drop at bytes)) (is.takes (drop at bytes));
}

pub local-number : (w : Width) → IsLocal (byte_len w) (number_at w)
unfolding number_at
local-number w = local-placed (byte_len w) (number_front w) (short-number w)

pub local-name : IsLocal 81 name_at
unfolding name_at
local-name = local-placed 81 name_front short-name

pub local-optional_name : IsLocal 81 optional_name_at
unfolding optional_name_at
local-optional_name = local-placed 81 optional_name_front short-optional_name

pub local-truth : IsLocal 1 truth_at
unfolding truth_at
local-truth = local-placed 1 truth_front short-truth

-- ---- values of several

ok_weaker : {A E : Type 0} (a b : ℕ) (r : Result (A × ℕ) E) → a ≤ b → IfOk r (λ x. x.1 ≤ a) → IfOk r (λ x. x.1 ≤ b)
ok_weaker a b (Ok x) le h = omega (arith, le, h)
ok_weaker a b (Err fault) le h = tt

-- what takes few bytes takes no more than more
pub local-more : {X : Type 0} {read : Reads X} (few most : ℕ) → few ≤ most → IsLocal few read → IsLocal most read
local-more {read = read} few most le is = record {
  same = λ bytes rest at h. is.same bytes rest at (omega (arith, le, h));
  ends = λ bytes at. ok_weaker (at + few) (at + most) (read bytes at) (omega (arith, le)) (is.ends bytes at);
}

pub local-seen : {X Y : Type 0} {read : Reads X} {most : ℕ} (make : X → Y) → IsLocal most read
    → IsLocal most (seen_at make read)
unfolding seen_at
local-seen {read = read} {most} make is = record {
  same = λ bytes rest at le. ap (λ r. r >>= λ x. Ok (make x.0, x.1)) (is.same bytes rest at le);
  ends = λ bytes at. bind_good (λ x. x.1 ≤ at + most) (λ x. x.1 ≤ at + most) (read bytes at) (λ x. Ok (make x.0, x.1))
      (is.ends bytes at) (λ x h. h);
}

pub local-both : {X Y : Type 0} {first : Reads X} {second : Reads Y} {a b : ℕ} → IsLocal a first → IsLocal b second
    → IsLocal (a + b) (both_at first second)
local-both {X} {Y} {first} {second} {a} {b} is js = record {
  same = λ bytes rest at le.
      bind_same (λ x. x.1 ≤ at + a) (first (bytes ++ rest) at) (first bytes at)
      (λ x. second (bytes ++ rest) x.1 >>= λ y. Ok ((x.0, y.0), y.1))
      (λ x. second bytes x.1 >>= λ y. Ok ((x.0, y.0), y.1))
      (is.same bytes rest at (omega (arith, le))) (is.ends bytes at)
      (λ x h. ap (λ r. r >>= λ y. Ok ((x.0, y.0), y.1)) (js.same bytes rest x.1 (omega (arith, le, h))));
  ends = λ bytes at.
      bind_good (λ x. x.1 ≤ at + a) (λ z. z.1 ≤ at + (a + b)) (first bytes at)
      (λ x. second bytes x.1 >>= λ y. Ok ((x.0, y.0), y.1)) (is.ends bytes at)
      (λ x h. bind_good (λ y. y.1 ≤ x.1 + b) (λ z. z.1 ≤ at + (a + b)) (second bytes x.1)
      (λ y. Ok ((x.0, y.0), y.1)) (js.ends bytes x.1) (λ y k. omega (arith, h, k)));
}

pub local-three : {X Y Z : Type 0} {first : Reads X} {second : Reads Y} {third : Reads Z} {a b c : ℕ}
    → IsLocal a first → IsLocal b second → IsLocal c third
    → IsLocal {X = X × Y × Z} (a + (b + c)) (seen_at (λ p. (p.0, p.1.0, p.1.1)) (both_at first (both_at second third)))
local-three is js ks = local-seen _ (local-both is (local-both js ks))

pub local-instance : IsLocal 12 instance_at
unfolding instance_at
local-instance = record {
  same = λ bytes rest at le.
      bind_same (λ e. e.1 ≤ at + 8) (number_at w64 (bytes ++ rest) at) (number_at w64 bytes at)
      (λ e. number_at w32 (bytes ++ rest) e.1 >>= λ n. Ok (record { epoch = e.0; number = n.0 }, n.1))
      (λ e. number_at w32 bytes e.1 >>= λ n. Ok (record { epoch = e.0; number = n.0 }, n.1))
      ((local-number w64).same bytes rest at (omega (arith, le))) ((local-number w64).ends bytes at)
      (λ e h. ap (λ r. r >>= λ n. Ok (record { epoch = e.0; number = n.0 }, n.1))
      ((local-number w32).same bytes rest e.1 (omega (arith, le, h))));
  ends = λ bytes at.
      bind_good (λ e. e.1 ≤ at + 8) (λ n. n.1 ≤ at + 12) (number_at w64 bytes at)
      (λ e. number_at w32 bytes e.1 >>= λ n. Ok (record { epoch = e.0; number = n.0 }, n.1))
      ((local-number w64).ends bytes at)
      (λ e h. bind_good (λ n. n.1 ≤ e.1 + 4) (λ n. n.1 ≤ at + 12) (number_at w32 bytes e.1)
      (λ n. Ok (record { epoch = e.0; number = n.0 }, n.1)) ((local-number w32).ends bytes e.1)
      (λ n k. omega (arith, h, k)));
}

pub local-none : {X : Type 0} (most place : ℕ) → IsLocal {X = X} most (none_at place)
local-none most place = record { same = λ bytes rest at le. refl; ends = λ bytes at. tt }

pub local-alone : {X : Type 0} (most : ℕ) (x : X) → IsLocal most (alone x)
local-alone most x = record { same = λ bytes rest at le. refl; ends = λ bytes at. omega arith }

pub local-cases : {X : Type 0} (most : ℕ) (readers : List (Reads X))
    → ((place n : ℕ) → IsLocal most (slice_index_or readers n (none_at place))) → IsLocal (1 + most) (case_at readers)
local-cases most readers each = record {
  same = λ bytes rest at le.
      bind_same (λ n. n.1 ≤ at + 1) (number_at w8 (bytes ++ rest) at) (number_at w8 bytes at)
      (λ n. slice_index_or readers n.0 (none_at at) (bytes ++ rest) n.1)
      (λ n. slice_index_or readers n.0 (none_at at) bytes n.1)
      ((local-number w8).same bytes rest at (omega (arith, le))) ((local-number w8).ends bytes at)
      (λ n h. (each at n.0).same bytes rest n.1 (omega (arith, le, h)));
  ends = λ bytes at.
      bind_good (λ n. n.1 ≤ at + 1) (λ x. x.1 ≤ at + (1 + most)) (number_at w8 bytes at)
      (λ n. slice_index_or readers n.0 (none_at at) bytes n.1) ((local-number w8).ends bytes at)
      (λ n h. ok_weaker (n.1 + most) (at + (1 + most)) (slice_index_or readers n.0 (none_at at) bytes n.1)
      (omega (arith, h)) ((each at n.0).ends bytes n.1));
}
