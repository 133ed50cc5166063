-- The rows of a table end where those of the longest one do, or before, and what stands behind that is not looked at. It
-- serves the law that a head which is too long is told by its first bytes.
use Rattle.std.proofs.Common.{◌≡◌, ℕ, zero, suc, ◌+◌, ◌*◌, ◌<◌, ◌≤◌, Bool, true, false, cond, ◌&&◌, List, [], ◌∷◌, ◌++◌, length, Result, Ok, Err, refl, sym, ap, ◌∙◌, arith, length-append, IfOk}
use Rattle.std.specs.Prelude.{nat_lt, nat_le, sum_by}
use Rattle.std.specs.declared.cmp.Ordering.{Ordering}
use Rattle.std.proofs.lemmas.Bool.Decides.{nat_tests}
use Rattle.wire_fields.specs.declared.fault.FieldFault.{FieldFault}
use Rattle.bbs_model.specs.Limits.{most_wanted}
use Rattle.bbs_codec.specs.RowFormats.{Reads}
use Rattle.bbs_codec.specs.declared.fault.CodecFault.{CodecFault}
use Rattle.bbs_codec.specs.declared.fault.CodecFault.TheVariants.{BadField}
use Rattle.head_codec.specs.Head.{Keeps, is_above, is_fresh, may_follow, row_kept, head_rows_at}
use Rattle.head_codec.proofs.Local.{IsLocal, bind_same, bind_good}

-- no row may follow a full table
abbrev pub IsFull : {X : Type 0} → ℕ → (List X → X → Bool) → Type 0
IsFull {X} most follows = (rows : List X) (x : X) → nat_lt (length rows) most ≡ false → follows rows x ≡ false

no_room : (above room wanted suits fresh : Bool) → room ≡ false
    → (((above && (room && wanted)) && suits) && fresh) ≡ false
no_room above true wanted suits fresh e = absurd cc
no_room true false wanted suits fresh e = refl
no_room false false wanted suits fresh e = refl

pub full : {K X : Type 0} (R : K → K → Ordering) (key : X → K) (keeps : Keeps X) (next : ℕ)
    → IsFull keeps.most (may_follow R key keeps next)
unfolding may_follow
full R key keeps next rows x e =
    no_room (is_above R key rows x) (nat_lt (length rows) keeps.most)
    (nat_le (sum_by keeps.wants rows + keeps.wants x) most_wanted) (keeps.suits next x)
    (is_fresh keeps.stamp rows x) e

module _ {X : Type 0} (read : Reads X) (follows : List X → X → Bool) (most : ℕ) (is : IsLocal 344 read)
    (full : IsFull most follows) where
  -- so many rows were read from a place on, each in few bytes
  abbrev pub AreFew : ℕ → List X × ℕ → Type 0
  AreFew start done = (length done.0 ≤ most) × (done.1 ≤ start + 344 * length done.0)

  kept_few : (start : ℕ) (done : List X × ℕ) (r : Result (X × ℕ) FieldFault) → AreFew start done
      → IfOk r (λ x. x.1 ≤ done.1 + 344) → IfOk (row_kept follows done r) (AreFew start)
  kept_few start done (Err fault) few h = tt
  kept_few start done (Ok x) few h = by_test (follows done.0 x.0) refl
    where
      room : (b : Bool) → nat_lt (length done.0) most ≡ b → follows done.0 x.0 ≡ true → length done.0 < most
      room true e kept = grind (arith, nat_tests, e)
      room false e kept = absurd (let never = full done.0 x.0 e in cc)

      by_test : (b : Bool) → follows done.0 x.0 ≡ b
          → IfOk (cond b (Ok (done.0 ++ x.0 ∷ [], x.1)) (Err (BadField done.1))) (AreFew start)
      by_test true e =
          let less : length done.0 < most = room (nat_lt (length done.0) most) refl e in
          let one : length (done.0 ++ x.0 ∷ []) ≡ length done.0 + 1 = length-append done.0 (x.0 ∷ []) in
          (omega (arith, less, one), omega (arith, few.1, h, one))
      by_test false e = tt

  -- where the table is full it doesn't matter what is read
  kept_full : (done : List X × ℕ) (r : Result (X × ℕ) FieldFault) → nat_lt (length done.0) most ≡ false
      → row_kept follows done r ≡ Err (BadField done.1)
  kept_full done (Ok x) e = ap (λ (b : Bool). cond b (Ok (done.0 ++ x.0 ∷ [], x.1)) (Err (BadField done.1)))
      (full done.0 x.0 e)
  kept_full done (Err fault) e = refl

  kept_same : (start : ℕ) (bytes rest : List ℕ) (done : List X × ℕ) → AreFew start done
      → start + 344 * most ≤ length bytes
      → row_kept follows done (read (bytes ++ rest) done.1) ≡ row_kept follows done (read bytes done.1)
  kept_same start bytes rest done few long = by_test (nat_lt (length done.0) most) refl
    where
      by_test : (b : Bool) → nat_lt (length done.0) most ≡ b
          → row_kept follows done (read (bytes ++ rest) done.1) ≡ row_kept follows done (read bytes done.1)
      by_test true e =
          let less : length done.0 < most = grind (arith, nat_tests, e) in
          ap (row_kept follows done) (is.same bytes rest done.1 (omega (arith, few.1, less, long)))
      by_test false e =
          kept_full done (read (bytes ++ rest) done.1) e ∙ sym (kept_full done (read bytes done.1) e)

  rows_few : (start n : ℕ) (bytes : List ℕ) (done : List X × ℕ) → AreFew start done
      → IfOk (head_rows_at read follows n bytes done) (AreFew start)
  rows_few start zero bytes done few = few
  rows_few start (suc n) bytes done few =
      bind_good (AreFew start) (AreFew start) (row_kept follows done (read bytes done.1))
      (λ more. head_rows_at read follows n bytes more)
      (kept_few start done (read bytes done.1) few (is.ends bytes done.1))
      (λ more h. rows_few start n bytes more h)

  rows_same : (start n : ℕ) (bytes rest : List ℕ) (done : List X × ℕ) → AreFew start done
      → start + 344 * most ≤ length bytes
      → head_rows_at read follows n (bytes ++ rest) done ≡ head_rows_at read follows n bytes done
  rows_same start zero bytes rest done few long = refl
  rows_same start (suc n) bytes rest done few long =
      bind_same (AreFew start) (row_kept follows done (read (bytes ++ rest) done.1))
      (row_kept follows done (read bytes done.1)) (λ more. head_rows_at read follows n (bytes ++ rest) more)
      (λ more. head_rows_at read follows n bytes more) (kept_same start bytes rest done few long)
      (kept_few start done (read bytes done.1) few (is.ends bytes done.1))
      (λ more h. rows_same start n bytes rest more h long)

  at_most : (start end : ℕ) (r : Result (List X × ℕ) CodecFault) → start + 344 * most ≤ end → IfOk r (AreFew start)
      → IfOk r (λ d. d.1 ≤ end)
  at_most start end (Ok d) le few = omega (arith, le, few.0, few.1)
  at_most start end (Err fault) le few = tt

  -- the whole table ends where the longest one does, or before
  pub table_ends : (at n end : ℕ) (bytes : List ℕ) → at + 344 * most ≤ end
      → IfOk (head_rows_at read follows n bytes ([], at)) (λ d. d.1 ≤ end)
  table_ends at n end bytes le =
      at_most at end (head_rows_at read follows n bytes ([], at)) le
      (rows_few at n bytes ([], at) (omega arith, omega arith))

  -- and where so many bytes are there nothing behind them matters
  pub table_same : (at n : ℕ) (bytes rest : List ℕ) → at + 344 * most ≤ length bytes
      → head_rows_at read follows n (bytes ++ rest) ([], at) ≡ head_rows_at read follows n bytes ([], at)
  table_same at n bytes rest long = rows_same at n bytes rest ([], at) (omega arith, omega arith) long
