-- Rows that are the same, table by table.
use Rattle.std.proofs.Common.{◌≡◌, ℕ, Bool, List}
use Rattle.std.specs.Bool.{Decides}
use Rattle.std.specs.Cmp.Lexicographic.{pointwise}
use Rattle.std.proofs.lemmas.Slice.Eq.{slice_eq-Decides}
use Rattle.bbs_model.specs.declared.rows.Rows.{Rows}

-- lists are compared item by item
pub alike : {A : Type 0} {E : A → A → Bool} (xs ys : List A) (r : Bool) → r ≡ pointwise E xs ys
    → ((a b : A) → Decides (E a b) (a ≡ b)) → Decides r (xs ≡ ys)
alike xs ys r is decides = slice_eq-Decides decides xs ys r is

-- and rows table by table
pub rows_alike : (a b : Rows) → a.desired ≡ b.desired → a.actual ≡ b.actual → a.tasks ≡ b.tasks → a.cells ≡ b.cells
    → a.domains ≡ b.domains
    → a.next ≡ b.next → a ≡ b
rows_alike a b desired actual tasks cells domains next =
    λ j. record {
      desired = desired j;
      actual = actual j;
      tasks = tasks j;
      cells = cells j;
      domains = domains j;
      next =
          next j;
    }
