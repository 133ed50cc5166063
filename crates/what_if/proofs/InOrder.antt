-- The states of cells by their places in the order of names.
use Rattle.std.proofs.Common.{◌≡◌, ℕ, suc, ◌+◌, ◌<◌, List, [], ◌∷◌, ◌++◌, length, map, take, get_or, Option, Some, refl, sym, ap, ◌∙◌, arith}
use Rattle.std.specs.FinMap.Entries.{by_order}
use Rattle.std.specs.List.{All, cons_option, filter_map, flat_map, slice_get}
use Rattle.std.specs.declared.cmp.Ordering.{Ordering}
use Rattle.std.specs.declared.cmp.Ordering.TheVariants.{Less, Equal, Greater}
use Rattle.std.proofs.lemmas.List.{append-nil, take_more}
use Rattle.std.proofs.lemmas.List.Concat.{flat_map-append, flat_map-cons}
use Rattle.std.proofs.lemmas.List.Elements.{All-cons, All-head, All-map, All-nil, All-tail, All-weaker, filter_map-append}
use Rattle.std.proofs.lemmas.Option.{slice_get_within}
use Rattle.diego_names.specs.Order.{name_order}
use Rattle.row_tables.specs.Table.{put_row, table}
use Rattle.dump_lines.specs.declared.cell_state.CellState.{CellState}
use Rattle.dump_reader.specs.declared.dump.Dump.{Dump}
use Rattle.what_if.specs.Marks.{order_of, placed_from, there_at}
use Rattle.what_if.specs.Sites.{instances_there, instances_wanted}
use Rattle.what_if.specs.declared.site.Wanted.{Wanted}
use Rattle.what_if.proofs.Differing.{All-table}

-- a cell's place is within its list, counted from the first place
IsPlace : List CellState → List ℕ × ℕ → Type 0
IsPlace states p = (s : CellState) × (slice_get states p.1 ≡ Some s) × (s.place.cell ≡ p.0)

zero_more : (m : ℕ) → m ≡ m + 0
zero_more m = omega arith

one_more : (m k : ℕ) → m + 1 + k ≡ m + suc k
one_more m k = omega arith

from_zero : (k : ℕ) → 0 + k ≡ k
from_zero k = omega arith

places_from : (all states : List CellState) (n : ℕ) → ((k : ℕ) → slice_get all (n + k) ≡ slice_get states k)
    → All (IsPlace all) (placed_from n states)
unfolding IsPlace
places_from all [] n same = All-nil (IsPlace all)
places_from all (s ∷ ss) n same =
    All-cons (IsPlace all) (s.place.cell, n) (placed_from (n + 1) ss)
    (s, ap (slice_get all) (zero_more n) ∙ same 0, refl)
    (places_from all ss (n + 1) (λ k. ap (slice_get all) (one_more n k) ∙ same (suc k)))

-- a row among rows with their places
module _ (all : List CellState) where
  rows : List (List ℕ × ℕ) → List CellState
  rows ps = filter_map (slice_get all) (map (λ p. p.1) ps)

  rows_put : (p : List ℕ × ℕ) (s : CellState) → slice_get all p.1 ≡ Some s → s.place.cell ≡ p.0
      → (ps : List (List ℕ × ℕ)) → All (IsPlace all) ps → rows (put_row name_order (λ (q : List ℕ × ℕ). q.0) p ps)
      ≡ put_row name_order (λ (t : CellState). t.place.cell) s (rows ps)
  unfolding rows IsPlace
  rows_put p s is name [] h = λ i. cons_option (is i) []
  rows_put p s is name (q ∷ qs) h =
      let there = All-head (IsPlace all) q qs h in
      let t : CellState = there.0 in
      let tail = All-tail (IsPlace all) q qs h in
      let put = put_row name_order (λ (r : List ℕ × ℕ). r.0) p qs in
      ap (λ (o : Ordering). filter_map (slice_get all) (map (λ (r : List ℕ × ℕ). r.1)
      (by_order o (p ∷ q ∷ qs) (p ∷ qs) (q ∷ put)))) (λ i. name_order (sym name i) (sym there.2 i))
      ∙ elim (name_order s.place.cell t.place.cell) as (λ o.
      filter_map (slice_get all) (map (λ (r : List ℕ × ℕ). r.1) (by_order o (p ∷ q ∷ qs) (p ∷ qs) (q ∷ put)))
      ≡ by_order o (s ∷ t ∷ rows qs) (s ∷ rows qs) (t ∷ put_row name_order (λ (x : CellState). x.place.cell) s
      (rows qs))) [
        | Less ↦ λ i. cons_option (is i) (cons_option (there.1 i) (rows qs))
        | Equal ↦ λ i. cons_option (is i) (rows qs)
        | Greater ↦ λ i. cons_option (there.1 i) (rows_put p s is name qs tail i)
      ]
      ∙ ap (put_row name_order (λ (x : CellState). x.place.cell) s) (sym (λ i. cons_option (there.1 i) (rows qs)))

  rows_table : (ps : List (List ℕ × ℕ)) → All (IsPlace all) ps
      → rows (table name_order (λ (q : List ℕ × ℕ). q.0) ps)
      ≡ table name_order (λ (t : CellState). t.place.cell) (rows ps)
  unfolding rows IsPlace
  rows_table [] h = refl
  rows_table (p ∷ ps) h =
      let here = All-head (IsPlace all) p ps h in
      let tail = All-tail (IsPlace all) p ps h in
      let s : CellState = here.0 in
      rows_put p s here.1 here.2 (table name_order (λ (q : List ℕ × ℕ). q.0) ps)
      (All-table name_order (λ (q : List ℕ × ℕ). q.0) (IsPlace all) ps tail)
      ∙ ap (put_row name_order (λ (t : CellState). t.place.cell) s) (rows_table ps tail)
      ∙ ap (table name_order (λ (t : CellState). t.place.cell)) (sym (λ i. cons_option (here.1 i) (rows ps)))

  rows_placed : (states : List CellState) (n : ℕ) → ((k : ℕ) → slice_get all (n + k) ≡ slice_get states k)
      → rows (placed_from n states) ≡ states
  unfolding rows
  rows_placed [] n same = refl
  rows_placed (s ∷ ss) n same =
      let here : slice_get all n ≡ Some s = ap (slice_get all) (zero_more n) ∙ same 0 in
      let rest : rows (placed_from (n + 1) ss) ≡ ss = rows_placed ss (n + 1)
      (λ k. ap (slice_get all) (one_more n k) ∙ same (suc k)) in
      λ i. cons_option (here i) (rest i)

  pub inside : All (λ at. at < length all) (order_of all)
  unfolding IsPlace
  inside =
      All-map (λ at. at < length all) (λ (p : List ℕ × ℕ). p.1)
      (table name_order (λ (q : List ℕ × ℕ). q.0) (placed_from 0 all))
      (All-weaker (IsPlace all) (λ p. p.1 < length all) (λ p h. slice_get_within all p.1 h.0 h.1)
      (table name_order (λ (q : List ℕ × ℕ). q.0) (placed_from 0 all))
      (All-table name_order (λ (q : List ℕ × ℕ). q.0) (IsPlace all) (placed_from 0 all)
      (places_from all all 0 (λ k. ap (slice_get all) (from_zero k)))))

  pub states_in_order : filter_map (slice_get all) (order_of all)
      ≡ table name_order (λ (t : CellState). t.place.cell) all
  unfolding rows
  states_in_order =
      rows_table (placed_from 0 all) (places_from all all 0 (λ k. ap (slice_get all) (from_zero k)))
      ∙ ap (table name_order (λ (t : CellState). t.place.cell))
      (rows_placed all 0 (λ k. ap (slice_get all) (from_zero k)))

-- one place more
pub there_next : (dump : Dump) (places : List ℕ) (i : ℕ) (s : CellState) → i < length places
    → slice_get dump.states (get_or places i 0) ≡ Some s → there_at dump (take (i + 1) places)
    ≡ there_at dump (take i places) ++ instances_there dump s
there_next dump places i s lt is =
    let f = instances_there dump in
    let front = filter_map (slice_get dump.states) (take i places) in
    ap (λ (ps : List ℕ). flat_map f (filter_map (slice_get dump.states) ps)) (take_more places i 0 lt)
    ∙ ap (flat_map f) (filter_map-append (slice_get dump.states) (take i places) (get_or places i 0 ∷ []))
    ∙ ap (λ (o : Option CellState). flat_map f (front ++ cons_option o [])) is
    ∙ flat_map-append f front (s ∷ [])
    ∙ ap (λ (ws : List Wanted). flat_map f front ++ ws) (flat_map-cons f s [] ∙ append-nil (f s))

pub there_in_order : (dump : Dump) → there_at dump (order_of dump.states) ≡ instances_wanted dump []
there_in_order dump = ap (flat_map (instances_there dump)) (states_in_order dump.states)
