-- How the answers of cells are found again.
use Rattle.std.specs.Prelude.{◌≡◌, ℕ, ◌&&◌, ◌<◌, true, Bool, List, length, take, nat_eq, Option, Some, None, MatchOption}
use Rattle.std.specs.Cmp.Lexicographic.{pointwise}
use Rattle.std.specs.HashMap.{HashMap, get}
use Rattle.std.specs.List.{slice_index_or}
use Rattle.std.specs.Ordering.{nat_cmp}
use Rattle.cell_records.specs.declared.answer.Answer.{Answer}
use Rattle.container_store.specs.Store.{number_of}
use Rattle.row_tables.specs.Table.{IsRising}
use Rattle.convergence.specs.Containers.{answer_from}
use Rattle.convergence.specs.declared.telling.Heard.{Heard}

-- the two are one cell under one epoch
abbrev pub is_same_cell : List ℕ × ℕ → List ℕ × ℕ → Bool
is_same_cell a b = pointwise nat_eq a.0 b.0 && nat_eq a.1 b.1

-- the answer of a cell and epoch among the first ones stands at that place, and its containers are in order
-- of number where that is noted
pub record IsIndexed (answers : List Answer) (first : ℕ) (cell : List ℕ × ℕ) (heard : Heard) : Type 0 where
  pub within : heard.at < length answers
  pub found : (d : Answer) → answer_from (take first answers) cell.0 cell.1 ≡ Some (slice_index_or answers heard.at d)
  pub in_order : heard.in_order ≡ true → (d : Answer) →
      IsRising nat_cmp number_of (slice_index_or answers heard.at d).containers

-- each cell and epoch of the first so many answers leads to its first answer, and no other leads anywhere
pub record IsIndexOf {S : Type 0} (answers : List Answer) (first : ℕ) (index : HashMap (List ℕ × ℕ) Heard S) : Type 0 where
  pub leads : (cell : List ℕ × ℕ) → MatchOption (get is_same_cell index cell)
      (answer_from (take first answers) cell.0 cell.1 ≡ None) (IsIndexed answers first cell)
