-- The orders of cells tell cells of unlike names apart.
use Rattle.std.proofs.Common.{◌≡◌, ◌≢◌, List, [], ◌∷◌, map, refl, sym, ap, subst}
use Rattle.std.specs.Cmp.{nat_cmp_total, on_total, then_total, back_total}
use Rattle.std.specs.FinMap.{nat_cmp-IsAntisymmetric}
use Rattle.std.specs.List.{AllPairs}
use Rattle.std.specs.List.Sorted.{IsPermutation, IsSortedByKey}
use Rattle.std.specs.Ordering.{nat_cmp}
use Rattle.row_tables.specs.Table.{IsKeyOrder, table}
use Rattle.row_tables.proofs.Public.{table-from_sorted}
use Rattle.diego_names.specs.Order.{name_order}
use Rattle.diego_names.proofs.Public.{IsKeyOrder-name_order}
use Rattle.cell_records.specs.declared.answer.Answer.{Answer}
use Rattle.what_if.proofs.Differing.{differ-by}
use Rattle.loss_cases.specs.Cells.{rank_of, rank_order, tagged}
use Rattle.loss_cases.specs.declared.cells.TaggedCell.{TaggedCell}
use Rattle.loss_cases.proofs.PlaceOrders.{both_tie}

-- no two cells have one name
abbrev pub NamesDiffer : List TaggedCell → Type 0
NamesDiffer cells = AllPairs (λ a b. a ≢ b) (map (λ c. c.cell) cells)

IsKeyOrder-rank_order : IsKeyOrder rank_order
IsKeyOrder-rank_order = record {
  total = then_total (on_total (λ r. r.load.0) (back_total nat_cmp_total))
      (on_total (λ r. r.cell) IsKeyOrder-name_order.total);
  exact = λ x y e i.
      let both = both_tie (nat_cmp y.load.0 x.load.0) _ e in
      record {
        load = record { 0 = sym (nat_cmp-IsAntisymmetric y.load.0 x.load.0 both.0) i };
        cell = IsKeyOrder-name_order.exact x.cell y.cell both.1 i;
      };
}

pub sorted_by_name : (xs ys : List TaggedCell) → NamesDiffer xs → IsSortedByKey (λ c. c.cell) name_order ys
    → IsPermutation xs ys → ys ≡ table name_order (λ c. c.cell) xs
sorted_by_name xs ys h sorted moved = table-from_sorted name_order
    (λ c. c.cell) IsKeyOrder-name_order xs ys h sorted moved

pub sorted_by_load : (xs ys : List TaggedCell) → NamesDiffer xs → IsSortedByKey rank_of rank_order ys
    → IsPermutation xs ys → ys ≡ table rank_order rank_of xs
sorted_by_load xs ys h sorted moved =
    table-from_sorted rank_order rank_of IsKeyOrder-rank_order xs ys
    (differ-by (λ (c : TaggedCell). c.cell) rank_of (λ a b e. ap (λ r. r.cell) e) xs h) sorted moved

-- the names of the cells are those of the answers
pub same_names : (answers : List Answer) → map (λ (a : Answer). a.cell) answers
    ≡ map (λ (c : TaggedCell). c.cell) (map tagged answers)
same_names [] = refl
same_names (a ∷ as_) = ap (λ ys. a.cell ∷ ys) (same_names as_)

pub names_differ : (answers : List Answer) → AllPairs (λ a b. a ≢ b) (map (λ (a : Answer). a.cell) answers)
    → NamesDiffer (map tagged answers)
names_differ answers h = subst (AllPairs (λ a b. a ≢ b)) (same_names answers) h
