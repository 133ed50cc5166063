-- A head begins with the number of transitions of its rows.
use Rattle.std.proofs.Common.{◌≡◌, ℕ, ◌+◌, ◌≤◌, true, false, cond, Bool, List, length, take, Ok, refl, ap, ◌∙◌, arith}
use Rattle.std.specs.Prelude.{nat_eq, nat_lt}
use Rattle.std.specs.Int.{w64, from_be_bytes}
use Rattle.std.proofs.lemmas.Bool.Decides.{nat_tests}
use Rattle.wire_fields.specs.Front.{Holds, Ends}
use Rattle.wire_fields.specs.Reading.{◌>>=◌, field_placed, number_at}
use Rattle.wire_fields.proofs.Public.{bind_ok}
use Rattle.bbs_model.specs.declared.rows.Rows.{Rows}
use Rattle.bbs_codec.specs.Format.{old_or, both_at, both, number32}
use Rattle.bbs_codec.specs.RowFormats.{Reads}
use Rattle.bbs_codec.proofs.Public.{seen_found}
use Rattle.head_codec.specs.Head.{Counts, counts_of_old, counts, old_counts, counts_in, counts_at, head_reading}
use Rattle.head_codec.proofs.HeadParts.{parts_found, kept_counts}

-- a number of eight bytes that was read at the front
number_found : (bytes : List ℕ) (n : ℕ × ℕ) → number_at w64 bytes 0 ≡ Ok n
    → (8 ≤ length bytes) × (from_be_bytes w64 (take 8 bytes) ≡ n.0)
unfolding number_at
number_found bytes n is = by_test (nat_lt (length bytes) 8) refl is
  where
    by_test : (b : Bool) → nat_lt (length bytes) 8 ≡ b → field_placed bytes 0
        (cond b Ends (Holds (from_be_bytes w64 (take 8 bytes)) 8)) ≡ Ok n
        → (8 ≤ length bytes) × (from_be_bytes w64 (take 8 bytes) ≡ n.0)
    by_test true h e = absurd cc
    by_test false h e =
        let same : ◌≡◌ {A = ℕ × ℕ} (from_be_bytes w64 (take 8 bytes), 0 + 8) n = cc in
        (grind (arith, nat_tests, h), ap (λ (x : ℕ × ℕ). x.0) same)

-- and so the first of what else stands behind it
first_found : {X : Type 0} (rest : Reads X) (bytes : List ℕ) (c : (ℕ × X) × ℕ)
    → both_at (number_at w64) rest bytes 0 ≡ Ok c
    → (8 ≤ length bytes) × (from_be_bytes w64 (take 8 bytes) ≡ c.0.0)
first_found {X} rest bytes c is =
    let first = bind_ok (number_at w64 bytes 0) (λ x. rest bytes x.1 >>= λ y. Ok ((x.0, y.0), y.1)) c is in
    let second = bind_ok (rest bytes first.0.1) (λ y. Ok ((first.0.0, y.0), y.1)) c first.2 in
    let same : ◌≡◌ {A = (ℕ × X) × ℕ} ((first.0.0, second.0.0), second.0.1) c = cc in
    let found = number_found bytes first.0 first.1 in
    (found.0, found.1 ∙ ap (λ (x : (ℕ × X) × ℕ). x.0.0) same)

-- and so the first of the counts in each version
counts_found : (version : ℕ) (bytes : List ℕ) (c : Counts × ℕ) → (counts_in version).read bytes 0 ≡ Ok c
    → (8 ≤ length bytes) × (from_be_bytes w64 (take 8 bytes) ≡ c.0.0)
counts_found version bytes c = by (nat_eq version 1)
  where
    by : (b : Bool) → (old_or b old_counts counts).read bytes 0 ≡ Ok c
        → (8 ≤ length bytes) × (from_be_bytes w64 (take 8 bytes) ≡ c.0.0)
    by true is =
        let rest : Reads ((ℕ × ℕ) × (ℕ × ℕ)) = (both (both number32 number32) (both number32 number32)).read in
        let x = seen_found counts_of_old (both_at (number_at w64) rest) bytes 0 c.0 c.1 is in
        let found = first_found rest bytes (x.value, c.1) x.is_read in
        (found.0, found.1 ∙ ap (λ (k : Counts). k.0) x.made)
    by false is = first_found (both (both number32 number32) (both number32 (both number32 number32))).read bytes c is

-- what is read as a head has eight bytes at least, and these are the number of transitions of its rows
pub head_next : (version : ℕ) (bytes : List ℕ) (rows : Rows) → head_reading version bytes ≡ Ok rows
    → (8 ≤ length bytes) × (from_be_bytes w64 (take 8 bytes) ≡ rows.next)
unfolding counts_at
head_next version bytes rows is =
    let found = parts_found version bytes rows is in
    let p = found.1 in
    let counted = counts_found version bytes p.c (kept_counts ((counts_in version).read bytes 0) p.c p.counts_are).0 in
    (counted.0, counted.1 ∙ ap (λ (r : Rows). r.next) p.rows_are)
