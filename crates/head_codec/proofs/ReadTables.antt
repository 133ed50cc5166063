-- The rows of one table, read and spelled.
use Rattle.std.proofs.Common.{◌≡◌, ℕ, ◌+◌, List, [], map, nat_eq, length, Option, Some, None, Ok, sym, ap, subst, ◌∙◌, arith, IfSome}
use Rattle.std.specs.declared.cmp.Ordering.{Ordering}
use Rattle.std.specs.List.{flat_map, AllByRecursion, IsDistinct}
use Rattle.row_tables.specs.Table.{IsKeyOrder}
use Rattle.wire_fields.specs.Laws.{IsBytes, TextStandsAt}
use Rattle.bbs_codec.specs.Format.{Format, IsFormat}
use Rattle.head_codec.specs.Head.{Keeps, may_follow, head_rows_at}
use Rattle.head_codec.proofs.Followers.{IsTable, IsTable-push, may_follow-table}
use Rattle.head_codec.proofs.RowLists.{rows_spelled, rows_keep, rows_again}

no_stamps : {X : Type 0} (stamp : Option (X → ℕ)) → IfSome stamp (λ s. IsDistinct nat_eq (map s []))
unfolding IsDistinct
no_stamps None = tt
no_stamps (Some s) = tt

module _ {K X : Type 0} (R : K → K → Ordering) (key : X → K) (o : IsKeyOrder R) (keeps : Keeps X) (next : ℕ)
    (f : Format X) (is : IsFormat f) where
  -- the table of no rows
  IsTable-nil : IsTable R key keeps next []
  IsTable-nil = record {
    rising = tt;
    few = omega arith;
    each = tt;
    wanted = omega arith;
    distinct =
        no_stamps keeps.stamp;
  }

  -- a table stands there, and the other place is behind it
  pub record Read (n : ℕ) (bytes : List ℕ) (at : ℕ) (rows : List X) (after : ℕ) : Type 0 where
    pub table : IsTable R key keeps next rows
    pub count : length rows ≡ n
    pub stands : TextStandsAt bytes at (flat_map f.spelling rows)
    pub place : after ≡ at + length (flat_map f.spelling rows)
    pub fits : AllByRecursion f.Fits rows

  pub table_valid : (n : ℕ) (bytes : List ℕ) (at : ℕ) (d : List X × ℕ)
      → head_rows_at f.read (may_follow R key keeps next) n bytes ([], at) ≡ Ok d → IsTable R key keeps next d.0
  table_valid n bytes at d e =
      rows_keep f (may_follow R key keeps next) (IsTable R key keeps next)
      (λ xs x t passed. IsTable-push R key keeps next o xs x t passed) n bytes ([], at) d IsTable-nil e

  pub table_spelled : (n : ℕ) (bytes : List ℕ) (at : ℕ) (d : List X × ℕ) → IsBytes bytes
      → head_rows_at f.read (may_follow R key keeps next) n bytes ([], at) ≡ Ok d → Read n bytes at d.0 d.1
  table_spelled n bytes at d ib e =
      let r = rows_spelled f (may_follow R key keeps next) is n bytes ([], at) d ib e in
      let same : r.rows ≡ d.0 = sym r.all_is in
      record {
        table = table_valid n bytes at d e;
        count = ap length (sym same) ∙ r.count;
        stands = subst (λ (xs : List X). TextStandsAt bytes at (flat_map f.spelling xs)) same r.stands;
        place = subst (λ (xs : List X). d.1 ≡ at + length (flat_map f.spelling xs)) same r.place;
        fits = subst (λ (xs : List X). AllByRecursion f.Fits xs) same r.fits;
      }

  pub table_again : (rows : List X) (bytes : List ℕ) (at : ℕ) → IsTable R key keeps next rows
      → AllByRecursion f.Fits rows → TextStandsAt bytes at (flat_map f.spelling rows)
      → head_rows_at f.read (may_follow R key keeps next) (length rows) bytes ([], at)
      ≡ Ok (rows, at + length (flat_map f.spelling rows))
  table_again rows bytes at t fits stands =
      rows_again f (may_follow R key keeps next) is rows [] bytes at fits
      (λ xs x rest e. may_follow-table R key keeps next xs x rest (subst (IsTable R key keeps next) e t)) stands
