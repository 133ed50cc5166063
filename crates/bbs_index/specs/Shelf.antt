-- What a map from keys to rows holds, read as the table of its rows.
use Rattle.std.specs.Prelude.{◌≡◌, ℕ, Bool, List, [], ◌∷◌, map, length, Some}
use Rattle.std.specs.declared.cmp.Ordering.{Ordering}
use Rattle.std.specs.FinMap.Entries.{put}
use Rattle.std.specs.List.{slice_get}
use Rattle.std.specs.Map.{lookup}

module _ {K X : Type 0} (R : K → K → Ordering) where
  -- the entries in the order of their keys
  abbrev pub in_order : List (K × X) → List (K × X)
  in_order [] = []
  in_order (e ∷ es) = put R e.0 e.1 (in_order es)

  -- the rows in the order of the keys that they stand under
  abbrev pub table_of : List (K × X) → List X
  table_of es = map (λ e. e.1) (in_order es)

-- what a shelf holds: its rows in the order of their keys and in that of their numbers, and how many more
-- fit without memory
pub record Stock (X : Type 0) : Type 0 where
  pub rows : List X
  pub numbered : List X
  pub spare : ℕ

-- the entries are a shelf: each row stands under its own key, and each entry is a row of the table
pub record IsShelf {K X : Type 0} (R : K → K → Ordering) (eq : K → K → Bool) (key : X → K)
    (es : List (K × X)) : Type 0 where
  pub at_key : (q : K) (x : X) → lookup (eq q) es ≡ Some x → key x ≡ q
  pub once : length (table_of R es) ≡ length es

-- the rows of these numbers, one by one, are those rows
abbrev pub AreNumbered : {X : Type 0} → List X → List ℕ → List X → Type 0
AreNumbered numbered numbers rows = map (slice_get numbered) numbers ≡ map (λ x. Some x) rows
