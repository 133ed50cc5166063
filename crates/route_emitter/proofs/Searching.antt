-- What a binary search among sorted entries finds.
use Rattle.std.proofs.Common.{◌≡◌, ◌+◌, ◌<◌, ℕ, List, [], ◌∷◌, length, get_or, inl, inr, zero, suc, Result, Ok, Err, is_ok, sym, ap, ◌∙◌, arith}
use Rattle.std.specs.declared.cmp.Ordering.TheVariants.{Less, Equal, Greater}
use Rattle.std.specs.Ordering.{ordering_reverse, is_lt}
use Rattle.std.specs.Cmp.{tied_itself}
use Rattle.std.specs.List.{Contains, HoldsAt}
use Rattle.std.specs.List.Sorted.{IsBinarySearchResult, IsPartitionPoint, IsSearchInRange, IsSortedBy}
use Rattle.std.proofs.lemmas.Bool.{cases_lt}
use Rattle.std.proofs.lemmas.List.Sorted.{searchable_from_sorted}
use Rattle.row_tables.specs.Table.{IsRising}
use Rattle.row_tables.proofs.Public.{All-above, below_rest, IsRising-tail}
use Rattle.route_emitter.specs.Entries.{has, itself, route_order}
use Rattle.route_emitter.specs.declared.entry.RouteEntry.{RouteEntry}
use Rattle.route_emitter.proofs.Lists.{has-Contains, lacks}
use Rattle.route_emitter.proofs.Order.{IsKeyOrder-route_order}

-- sorted entries are sorted as std says it
IsSortedBy-from_rising : (xs : List RouteEntry) → IsRising route_order itself xs
    → IsSortedBy (λ a b. is_lt (route_order a b)) xs
IsSortedBy-from_rising [] h k d low high = absurd (omega arith)
IsSortedBy-from_rising (x ∷ []) h k d low high = absurd (omega arith)
IsSortedBy-from_rising (x ∷ y ∷ ys) h zero d low high =
    let above : route_order x y ≡ Less = All-above route_order itself x (y ∷ ys)
    (below_rest route_order itself x (y ∷ ys) h) 0 y (omega arith) in
    ap (λ o. is_lt o) (IsKeyOrder-route_order.total.antisymm y x ∙ ap ordering_reverse above)
IsSortedBy-from_rising (x ∷ y ∷ ys) h (suc k) d low high =
    let later : suc k + 1 ≡ suc (k + 1) = omega arith in
    ap (λ n. is_lt (route_order (get_or (x ∷ y ∷ ys) n d) (get_or (y ∷ ys) k d))) later
    ∙ IsSortedBy-from_rising (y ∷ ys) (IsRising-tail route_order itself x (y ∷ ys) h) k d (omega arith) (omega arith)

-- the search is right: where it finds a place the entry stands there, and else it is none of them
found_at : (xs : List RouteEntry) (e : RouteEntry) (i : ℕ) → i < length xs → HoldsAt (λ y. route_order y e ≡ Equal) xs i
    → Contains xs e
found_at xs e i lt h = (i, lt, IsKeyOrder-route_order.exact (get_or xs i e) e (h e))

split_at : (xs : List RouteEntry) (e : RouteEntry) (i : ℕ)
    → IsPartitionPoint (λ y. route_order y e ≡ Less) (λ y. route_order y e ≡ Greater) xs i → Contains xs e → ⊥
split_at xs e i split (k, lt, at) =
    let same : route_order (get_or xs k e) e ≡ Equal = ap
    (λ y. route_order y e) at ∙ tied_itself IsKeyOrder-route_order.total e in
    elim (cases_lt k i) [
      | (inl low) ↦ let less : route_order (get_or xs k e) e ≡ Less = split.0 k e (omega arith) low in cc
      | (inr high) ↦ let more : route_order (get_or xs k e) e ≡ Greater = split.1 k e high lt in cc
    ]

-- where it finds none it finds a place for one
pub split_where : (xs : List RouteEntry) (e : RouteEntry) (i : ℕ) → IsRising route_order itself xs
    → IsBinarySearchResult (λ y. route_order y e) xs (Err i)
    → IsPartitionPoint (λ y. route_order y e ≡ Less) (λ y. route_order y e ≡ Greater) xs i
split_where xs e i h searched = searched (searchable_from_sorted IsKeyOrder-route_order.total itself xs e
    (IsSortedBy-from_rising xs h))

pub found_is_has : (xs : List RouteEntry) (e : RouteEntry) (r : Result ℕ ℕ) → IsRising route_order itself xs
    → IsSearchInRange r (length xs)
    → IsBinarySearchResult (λ y. route_order y e) xs r → is_ok r ≡ has xs e
found_is_has xs e (Ok i) h range searched = sym (has-Contains xs e (found_at xs e i range searched))
found_is_has xs e (Err i) h range searched = sym (lacks xs e (split_at xs e i (split_where xs e i h searched)))
