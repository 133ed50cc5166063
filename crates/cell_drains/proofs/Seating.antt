-- No cell is emptied twice.
use Rattle.std.proofs.Common.{◌≡◌, ◌≢◌, ℕ, true, false, cond, List, [], ◌∷◌, map, Option, Some, None, refl, sym, ap, subst, ◌∙◌, arith}
use Rattle.std.specs.List.{All, Contains, cons_option}
use Rattle.std.proofs.lemmas.List.Elements.{All-cons, All-contains_itself, All-head, All-nil, All-tail}
use Rattle.std.proofs.lemmas.List.Kept.{AllPairs-cons}
use Rattle.row_tables.proofs.Public.{IsRising-table}
use Rattle.cell_records.specs.declared.answer.Answer.{Answer}
use Rattle.auctioneer.specs.Stands.{same_name}
use Rattle.room_facts.proofs.Lists.{Apart, same_element}
use Rattle.what_if.specs.Sites.{IsSite}
use Rattle.what_if.specs.declared.site.Site.{Site}
use Rattle.what_if.proofs.Differing.{All-table, Differ, differ-from_rising, head-differs, tail-differs}
use Rattle.what_if.proofs.Names.{name_from_test}
use Rattle.cell_drains.specs.Laws.{NamesDiffer, NoCellGoesTwice}
use Rattle.cell_drains.specs.Seats.{as_named, by_seat, in_drain, seat_named, seat_of, seat_order, seats}
use Rattle.cell_drains.specs.declared.seats.Seat.{Seat}
use Rattle.cell_drains.proofs.Cutting.{all_cells}
use Rattle.cell_drains.proofs.SeatOrders.{IsKeyOrder-seat_order}

-- the names of cells
abbrev names : List Seat → List (List ℕ)
names ss = map (λ (s : Seat). s.cell) ss

same_names : (cs : List Answer) → map (λ (c : Answer). c.cell) cs ≡ names (map seat_of cs)
same_names [] = refl
same_names (c ∷ cs) = ap (λ (ns : List (List ℕ)). c.cell ∷ ns) (same_names cs)

apart : {X : Type 0} (xs : List X) → Differ xs → Apart xs
apart [] h = tt
apart (x ∷ xs) h = (head-differs x xs h, apart xs (tail-differs x xs h))

-- unlike elements of a list whose names differ have unlike names
module _ {X A : Type 0} (f : X → A) (xs : List X) (differ : Differ (map f xs)) where
  pub names_of_some : (ys : List X) → All (Contains xs) ys → Differ ys → Differ (map f ys)
  names_of_some [] inside h = λ i j d lt below. absurd (omega arith)
  names_of_some (y ∷ ys) inside h =
      AllPairs-cons (λ a b. a ≢ b) (f y) (map f ys)
      (others ys (All-tail (Contains xs) y ys inside) (head-differs y ys h))
      (names_of_some ys (All-tail (Contains xs) y ys inside) (tail-differs y ys h))
    where
      others : (zs : List X) → All (Contains xs) zs → All (λ z. y ≢ z) zs → All (λ a. f y ≢ a) (map f zs)
      others [] within unlike = All-nil (λ a. f y ≢ a)
      others (z ∷ zs) within unlike =
          All-cons (λ a. f y ≢ a) (f z) (map f zs)
          (λ e. All-head (λ w. y ≢ w) z zs unlike (same_element f xs y z (apart (map f xs) differ)
          (All-head (Contains xs) y ys inside) (All-head (Contains xs) z zs within) e))
          (others zs (All-tail (Contains xs) z zs within) (All-tail (λ w. y ≢ w) z zs unlike))

-- in order
sorted_differ : (ss : List Seat) → Differ (names ss) → Differ (names (by_seat ss))
sorted_differ ss h =
    names_of_some (λ (s : Seat). s.cell) ss h (by_seat ss)
    (All-table seat_order (λ (s : Seat). s) (Contains ss) ss (All-contains_itself ss))
    (subst Differ (same (by_seat ss)) (differ-from_rising seat_order (λ (s : Seat). s) IsKeyOrder-seat_order
    (by_seat ss) (IsRising-table seat_order (λ (s : Seat). s) IsKeyOrder-seat_order ss)))
  where
    same : (xs : List Seat) → map (λ (s : Seat). s) xs ≡ xs
    same [] = refl
    same (x ∷ xs) = ap (λ (ys : List Seat). x ∷ ys) (same xs)

-- a cell that is found has the name
found_name : (ss : List Seat) (name : List ℕ) (s : Seat) → seat_named ss name ≡ Some s → s.cell ≡ name
found_name [] name s e = cc
found_name (x ∷ xs) name s e =
    elim (same_name x.cell name) as (λ b. same_name x.cell name ≡ b → cond b (Some x) (seat_named xs name) ≡ Some s
    → s.cell ≡ name) [
      | true ↦ λ t is. ap (λ (y : Seat). y.cell) (sym (inside is)) ∙ name_from_test x.cell name t
      | false ↦ λ t is. found_name xs name s is
    ] refl e
  where
    inside : Some x ≡ Some s → x ≡ s
    inside is = cc

-- as they are named
module _ (ss : List Seat) where
  all_found : (P : List ℕ → Type 0) (ns : List (List ℕ)) → All P ns → All P (names (as_named ss ns))
  all_found P [] h = h
  all_found P (n ∷ ns) h =
      let rest = all_found P ns (All-tail P n ns h) in
      elim (seat_named ss n) as (λ (o : Option Seat). seat_named ss n ≡ o
      → All P (names (cons_option o (as_named ss ns)))) [
        | None ↦ λ e. rest
        | (Some s) ↦ λ e. All-cons P s.cell (names (as_named ss ns))
            (subst P (sym (found_name ss n s e)) (All-head P n ns h)) rest
      ] refl

  found_differ : (ns : List (List ℕ)) → Differ ns → Differ (names (as_named ss ns))
  found_differ [] h = h
  found_differ (n ∷ ns) h =
      let rest = found_differ ns (tail-differs n ns h) in
      elim (seat_named ss n) as (λ (o : Option Seat). seat_named ss n ≡ o
      → Differ (names (cons_option o (as_named ss ns)))) [
        | None ↦ λ e. rest
        | (Some s) ↦ λ e.
            AllPairs-cons (λ a b. a ≢ b) s.cell (names (as_named ss ns))
            (subst (λ (m : List ℕ). All (λ b. m ≢ b) (names (as_named ss ns))) (sym (found_name ss n s e))
            (all_found (λ b. n ≢ b) ns (head-differs n ns h)))
            rest
      ] refl

cells_differ : (site : Site) (names_given : Option (List (List ℕ))) → IsSite site → NamesDiffer names_given
    → Differ (names (in_drain site names_given))
cells_differ site None h given = sorted_differ (seats site) (subst Differ (same_names site.cells) h.cells.differ)
cells_differ site (Some ns) h given = found_differ (seats site) ns (given ns refl)

pub no_cell_goes_twice : NoCellGoesTwice
no_cell_goes_twice site names_given most h given =
    subst Differ (sym (all_cells most (in_drain site names_given))) (cells_differ site names_given h given)
