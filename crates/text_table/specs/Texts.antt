-- What rows of strings are as lists of bytes.
use Rattle.std.specs.Prelude.{ℕ, List, map, String, string_bytes, Vec}

-- the entries of a row
abbrev pub entries_of : {Y : Type 0} → List (String Y) → List (List ℕ)
entries_of row = map (λ entry. string_bytes entry) row

-- the rows of a table
abbrev pub texts_of : {Y Z : Type 0} → List (Vec (String Y) Z) → List (List (List ℕ))
texts_of rows = map (λ row. entries_of row.items) rows
