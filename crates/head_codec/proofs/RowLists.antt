-- What is read as rows is spelled so, and rows that are spelled so are read.
use Rattle.std.proofs.Common.{◌≡◌, ℕ, zero, suc, ◌+◌, Bool, true, false, cond, List, [], ◌∷◌, ◌++◌, length, drop, Result, Ok, Err, refl, sym, ap, subst, ◌∙◌, arith, append-nil, append_assoc, length-append}
use Rattle.std.specs.List.{flat_map, AllByRecursion}
use Rattle.wire_fields.specs.declared.fault.FieldFault.{FieldFault}
use Rattle.wire_fields.specs.Laws.{IsBytes, TextStandsAt}
use Rattle.wire_fields.specs.Reading.{◌>>=◌}
use Rattle.wire_fields.proofs.Public.{bind_ok, StandsAt-append, StandsAt-front, StandsAt-back}
use Rattle.bbs_codec.specs.Format.{Format, IsFormat}
use Rattle.head_codec.specs.Head.{row_kept, head_rows_at}
use Rattle.bbs_codec.specs.declared.fault.CodecFault.{CodecFault}
use Rattle.bbs_codec.specs.declared.fault.CodecFault.TheVariants.{BadField}

pub same_ok : {X : Type 0} (x y : X) → ◌≡◌ {A = Result X CodecFault} (Ok x) (Ok y) → x ≡ y
same_ok x y e = cc

-- a row was read, and may follow
record IsKept {X : Type 0} (follows : List X → X → Bool) (done : List X × ℕ) (read : Result (X × ℕ) FieldFault)
    (more : List X × ℕ) : Type 0 where
  row : X
  after : ℕ
  is_read : read ≡ Ok (row, after)
  passed : follows done.0 row ≡ true
  more_is : more ≡ (done.0 ++ row ∷ [], after)

kept_found : {X : Type 0} (follows : List X → X → Bool) (done : List X × ℕ) (read : Result (X × ℕ) FieldFault)
    (more : List X × ℕ)
    → row_kept follows done read ≡ Ok more → IsKept follows done read more
kept_found {X} follows done (Ok x) more e =
    elim (follows done.0 x.0) as (λ b. follows done.0 x.0 ≡ b
    → cond b (Ok (done.0 ++ x.0 ∷ [], x.1)) (Err (BadField done.1)) ≡ Ok more → IsKept follows done (Ok x) more) [
      | true ↦ λ passed is. record {
        row = x.0;
        after = x.1;
        is_read = refl;
        passed = passed;
        more_is =
            sym (same_ok {X = List X × ℕ} (done.0 ++ x.0 ∷ [], x.1) more is);
      }
      | false ↦ λ passed is. absurd cc
    ] refl e
kept_found follows done (Err fault) more e = absurd cc

module _ {X : Type 0} (f : Format X) (follows : List X → X → Bool) where
  -- these rows more stand at the place, and the other place is behind them
  pub record AreRows (n : ℕ) (bytes : List ℕ) (done : List X × ℕ) (all : List X × ℕ) : Type 0 where
    pub rows : List X
    pub all_is : all.0 ≡ done.0 ++ rows
    pub count : length rows ≡ n
    pub stands : TextStandsAt bytes done.1 (flat_map f.spelling rows)
    pub place : all.1 ≡ done.1 + length (flat_map f.spelling rows)
    pub fits : AllByRecursion f.Fits rows

  pub rows_spelled : IsFormat f → (n : ℕ) (bytes : List ℕ) (done all : List X × ℕ) → IsBytes bytes
      → head_rows_at f.read follows n bytes done ≡ Ok all → AreRows n bytes done all
  rows_spelled is zero bytes done all ib e =
      let same : done ≡ all = same_ok {X = List X × ℕ} done all e in
      subst (AreRows zero bytes done) same (record {
        rows = [];
        all_is = sym (append-nil done.0);
        count = refl;
        stands = record { rest = drop done.1 bytes; parts = refl };
        place = omega arith;
        fits = tt;
      })
  rows_spelled is (suc n) bytes done all ib e =
      let m = bind_ok (row_kept follows done (f.read bytes done.1))
      (λ more. head_rows_at f.read follows n bytes more) all e in
      let k = kept_found follows done (f.read bytes done.1) m.0 m.1 in
      let rest = rows_spelled is n bytes (done.0 ++ k.row ∷ [], k.after) all ib
      (subst (λ (d : List X × ℕ). head_rows_at f.read follows n bytes d ≡ Ok all) k.more_is m.2) in
      let one = is.spelled bytes done.1 k.row k.after ib k.is_read in
      let text : List ℕ = f.spelling k.row in
      let behind : List ℕ = flat_map f.spelling rest.rows in
      record {
        rows = k.row ∷ rest.rows;
        all_is = rest.all_is ∙ append_assoc done.0 (k.row ∷ []) rest.rows;
        count = ap suc rest.count;
        stands = StandsAt-append bytes done.1 text behind one.0
            (subst (λ (p : ℕ). TextStandsAt bytes p behind) one.1 rest.stands);
        place = omega (arith, rest.place, one.1, length-append text behind);
        fits = (one.2, rest.fits);
      }

  -- what each row that may follow keeps is kept by all
  pub rows_keep : (P : List X → Type 0) → ((xs : List X) (x : X) → P xs → follows xs x ≡ true → P (xs ++ x ∷ []))
      → (n : ℕ) (bytes : List ℕ) (done all : List X × ℕ) → P done.0 → head_rows_at f.read follows n bytes done ≡ Ok all
      → P all.0
  rows_keep P step zero bytes done all h e = subst (λ (d : List X × ℕ). P d.0) (same_ok {X = List X × ℕ} done all e) h
  rows_keep P step (suc n) bytes done all h e =
      let m = bind_ok (row_kept follows done (f.read bytes done.1))
      (λ more. head_rows_at f.read follows n bytes more) all e in
      let k = kept_found follows done (f.read bytes done.1) m.0 m.1 in
      rows_keep P step n bytes (done.0 ++ k.row ∷ [], k.after) all (step done.0 k.row h k.passed)
      (subst (λ (d : List X × ℕ). head_rows_at f.read follows n bytes d ≡ Ok all) k.more_is m.2)

  -- each of these rows may follow those before it
  abbrev pub Followers : List X → Type 0
  Followers all = (xs : List X) (x : X) (rest : List X) → all ≡ xs ++ x ∷ rest → follows xs x ≡ true

  pub rows_again : IsFormat f → (rows done : List X) (bytes : List ℕ) (at : ℕ) → AllByRecursion f.Fits rows
      → Followers (done ++ rows)
      → TextStandsAt bytes at (flat_map f.spelling rows) → head_rows_at f.read follows (length rows) bytes (done, at)
      ≡ Ok (done ++ rows, at + length (flat_map f.spelling rows))
  rows_again is [] done bytes at fits ok stands =
      let place : at ≡ at + 0 = omega arith in
      ap (λ (d : List X). Ok (d, at)) (sym (append-nil done)) ∙ ap (λ (n : ℕ). Ok (done ++ [], n)) place
  rows_again is (x ∷ xs) done bytes at fits ok stands =
      let text : List ℕ = f.spelling x in
      let behind : List ℕ = flat_map f.spelling xs in
      let e1 = is.again bytes at x fits.0 (StandsAt-front bytes at text behind stands) in
      let passed : follows done x ≡ true = ok done x xs refl in
      let joined : (done ++ x ∷ []) ++ xs ≡ done ++ x ∷ xs = append_assoc done (x ∷ []) xs in
      let e2 = rows_again is xs (done ++ x ∷ []) bytes (at + length text) fits.1
      (λ ys y rest e. ok ys y rest (sym joined ∙ e)) (StandsAt-back bytes at text behind stands) in
      let place : at + length text + length behind ≡ at + length (text ++ behind) =
      omega (arith, length-append text behind) in
      ap (λ (r : Result (X × ℕ) FieldFault). row_kept follows (done, at) r >>= λ more.
      head_rows_at f.read follows (length xs) bytes more) e1
      ∙ ap (λ (b : Bool). cond b (Ok (done ++ x ∷ [], at + length text)) (Err (BadField at)) >>= λ more.
      head_rows_at f.read follows (length xs) bytes more) passed
      ∙ e2
      ∙ ap (λ (d : List X). Ok (d, at + length text + length behind)) joined
      ∙ ap (λ (n : ℕ). Ok (done ++ x ∷ xs, n)) place
