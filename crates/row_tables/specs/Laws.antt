-- The laws of tables, each for rows of any type with keys in any order that tells keys apart.
use Rattle.std.specs.Prelude.{◌≡◌, ◌≢◌, ℕ, ◌+◌, List, length, map, Some, None}
use Rattle.std.specs.declared.cmp.Ordering.{Ordering}
use Rattle.std.specs.List.{sum_by, AllPairs, Contains}
use Rattle.std.specs.List.Sorted.{IsPermutation, IsSortedByKey}
use Rattle.std.specs.Option.{option_map_or}
use Rattle.row_tables.specs.Table.{find_row, put_row, without_row, IsRising, table}

-- a row that was put is found at its key, and the other keys answer as before
pub record FindsAfterPut {K X : Type 0} (R : K → K → Ordering) (key : X → K) : Type 0 where
  pub same : (r : X) (xs : List X) → find_row R key (key r) (put_row R key r xs) ≡ Some r
  pub other : (q : K) (r : X) (xs : List X) → q ≢ key r →
      find_row R key q (put_row R key r xs) ≡ find_row R key q xs

-- nothing is found at a key that was removed, and the other keys answer as before
pub record FindsAfterRemoval {K X : Type 0} (R : K → K → Ordering) (key : X → K) : Type 0 where
  pub same : (k : K) (xs : List X) → find_row R key k (without_row R key k xs) ≡ None
  pub other : (q k : K) (xs : List X) → q ≢ k →
      find_row R key q (without_row R key k xs) ≡ find_row R key q xs

-- a put and a removal keep the keys rising
pub record KeepRising {K X : Type 0} (R : K → K → Ordering) (key : X → K) : Type 0 where
  pub put : (r : X) (xs : List X) → IsRising R key xs → IsRising R key (put_row R key r xs)
  pub without : (k : K) (xs : List X) → IsRising R key xs → IsRising R key (without_row R key k xs)

-- a put of a new key adds a row and one of a known key none; a removal takes the row that is there
pub record CountRows {K X : Type 0} (R : K → K → Ordering) (key : X → K) : Type 0 where
  pub put_new : (r : X) (xs : List X) → IsRising R key xs → find_row R key (key r) xs ≡ None →
      length (put_row R key r xs) ≡ length xs + 1
  pub put_known : (r x : X) (xs : List X) → IsRising R key xs →
      find_row R key (key r) xs ≡ Some x → length (put_row R key r xs) ≡ length xs
  pub without_known : (k : K) (x : X) (xs : List X) → IsRising R key xs →
      find_row R key k xs ≡ Some x → length (without_row R key k xs) + 1 ≡ length xs
  pub without_unknown : (k : K) (xs : List X) → find_row R key k xs ≡ None →
      without_row R key k xs ≡ xs

-- a sum over the rows gains the row that was put, and loses the one that stood at that key
pub record SumRows {K X : Type 0} (R : K → K → Ordering) (key : X → K) : Type 0 where
  pub put : (f : X → ℕ) (r : X) (xs : List X) → IsRising R key xs →
      sum_by f (put_row R key r xs) + option_map_or f (find_row R key (key r) xs) 0 ≡ sum_by f xs + f r
  pub without : (f : X → ℕ) (k : K) (xs : List X) → IsRising R key xs →
      sum_by f (without_row R key k xs) + option_map_or f (find_row R key k xs) 0 ≡ sum_by f xs

-- what is found at each key determines a table
abbrev pub SameRows : {K X : Type 0} → (K → K → Ordering) → (X → K) → Type 0
SameRows {K} {X} R key =
    (xs ys : List X) → IsRising R key xs → IsRising R key ys →
    ((q : K) → find_row R key q xs ≡ find_row R key q ys) → xs ≡ ys

-- a row that is found has the key that was asked and stands in the table, where each row is found
pub record FindsItsRows {K X : Type 0} (R : K → K → Ordering) (key : X → K) : Type 0 where
  pub asked : (q : K) (x : X) (xs : List X) → find_row R key q xs ≡ Some x → key x ≡ q
  pub inside : (q : K) (x : X) (xs : List X) → find_row R key q xs ≡ Some x → Contains xs x
  pub found : (x : X) (xs : List X) → IsRising R key xs → Contains xs x →
      find_row R key (key x) xs ≡ Some x

-- the same rows in rising order are the table of them, and so are rows of unlike keys after a sort
pub record SortsToTable {K X : Type 0} (R : K → K → Ordering) (key : X → K) : Type 0 where
  pub rising : (xs ys : List X) → IsRising R key ys → IsPermutation xs ys → ys ≡ table R key xs
  pub sorted : (xs ys : List X) → AllPairs (λ a b. a ≢ b) (map key xs) → IsSortedByKey key R ys →
      IsPermutation xs ys → ys ≡ table R key xs
