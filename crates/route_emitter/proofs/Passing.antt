-- A table is changed piece by piece: what lies before an entry isn't touched by those behind it.
use Rattle.std.proofs.Common.{◌≡◌, ℕ, ◌+◌, ◌<◌, ◌≤◌, zero, suc, Bool, true, false, cond, List, [], ◌∷◌, ◌++◌, length, take, drop, is_some, Ok, Err, refl, sym, ap, ◌∙◌, append_assoc, arith}
use Rattle.std.specs.Prelude.{insert, remove}
use Rattle.std.specs.declared.cmp.Ordering.TheVariants.{Less, Equal, Greater}
use Rattle.std.specs.List.{All, HoldsAt}
use Rattle.std.specs.List.Sorted.{IsBinarySearchResult}
use Rattle.std.proofs.lemmas.List.Elements.{All-head, All-push, All-tail, All-weaker}
use Rattle.row_tables.specs.Table.{IsRising, put_row, without_row}
use Rattle.row_tables.proofs.Public.{All-above, below_rest, IsRising-tail}
use Rattle.route_emitter.specs.Entries.{has, itself, route_order}
use Rattle.route_emitter.specs.Near.{toggle, toggle_each}
use Rattle.route_emitter.specs.declared.entry.RouteEntry.{RouteEntry}
use Rattle.route_emitter.proofs.Order.{IsKeyOrder-route_order}
use Rattle.route_emitter.proofs.Placing.{below-found, below-place, find-behind, inserted, put-behind, removed, without-behind}
use Rattle.route_emitter.proofs.Searching.{found_is_has, split_where}

toggle-behind : (e : RouteEntry) (front back : List RouteEntry) → All (λ y. route_order y e ≡ Less) front
    → toggle e (front ++ back) ≡ front ++ toggle e back
toggle-behind e front back h =
    let o = IsKeyOrder-route_order in
    ap (λ s. cond (is_some s) (without_row route_order itself e (front ++ back))
    (put_row route_order itself e (front ++ back))) (find-behind route_order o e front back h)
    ∙ elim (has back e) as (λ b. cond b (without_row route_order itself e (front ++ back))
    (put_row route_order itself e (front ++ back)) ≡ front
    ++ cond b (without_row route_order itself e back) (put_row route_order itself e back)) [
      | true ↦ without-behind route_order o e front back h
      | false ↦ put-behind route_order o e front back h
    ]

-- those in front of sorted entries that are changed stay
pub toggled-behind : (later front back : List RouteEntry) → All (λ c. All (λ y. route_order y c ≡ Less) front) later
    → toggle_each later (front ++ back) ≡ front ++ toggle_each later back
toggled-behind [] front back h = refl
toggled-behind (c ∷ cs) front back h =
    ap (toggle_each cs) (toggle-behind c front back (All-head (λ x. All (λ y. route_order y x ≡ Less) front) c cs h))
    ∙ toggled-behind cs front (toggle c back) (All-tail (λ x. All (λ y. route_order y x ≡ Less) front) c cs h)

-- what is below an entry, and the entry itself, is below those behind it
module _ (e : RouteEntry) (front later : List RouteEntry) (low : All (λ y. route_order y e ≡ Less) front)
    (rising : IsRising route_order itself (e ∷ later)) where
  above : All (λ c. route_order e c ≡ Less) later
  above = All-above route_order itself e later (below_rest route_order itself e later rising)

  lower : (c : RouteEntry) → route_order e c ≡ Less → All (λ y. route_order y c ≡ Less) front
  lower c less = All-weaker (λ y. route_order y e ≡ Less) (λ y. route_order y c ≡ Less)
      (λ y h. IsKeyOrder-route_order.total.trans y e c h less) front low

  below-later : All (λ c. All (λ y. route_order y c ≡ Less) front) later
  below-later = All-weaker (λ c. route_order e c ≡ Less)
      (λ c. All (λ y. route_order y c ≡ Less) front) lower later above

  below-later-with : All (λ c. All (λ y. route_order y c ≡ Less) (front ++ e ∷ [])) later
  below-later-with =
      All-weaker (λ c. route_order e c ≡ Less) (λ c. All (λ y. route_order y c ≡ Less) (front ++ e ∷ []))
      (λ c less. All-push (λ y. route_order y c ≡ Less) front e (lower c less) less)
      later above

-- what is left of sorted entries is sorted
pub IsRising-drop : (n : ℕ) (xs : List RouteEntry) → IsRising route_order itself xs
    → IsRising route_order itself (drop n xs)
IsRising-drop zero xs h = h
IsRising-drop (suc n) [] h = h
IsRising-drop (suc n) (x ∷ xs) h = IsRising-drop n xs (IsRising-tail route_order itself x xs h)

toggle-there : (e : RouteEntry) (xs : List RouteEntry) → has xs e ≡ true
    → toggle e xs ≡ without_row route_order itself e xs
toggle-there e xs is = ap (λ b. cond b (without_row route_order itself e xs) (put_row route_order itself e xs)) is

pub toggle-lacking : (e : RouteEntry) (xs : List RouteEntry) → has xs e ≡ false
    → toggle e xs ≡ put_row route_order itself e xs
toggle-lacking e xs is = ap (λ b. cond b (without_row route_order itself e xs) (put_row route_order itself e xs)) is

-- an entry that a search found, or for which it found a place
module _ (e : RouteEntry) (xs : List RouteEntry) (at : ℕ) (rising : IsRising route_order itself xs) where
  pub toggle_found : at < length xs → HoldsAt (λ y. route_order y e ≡ Equal) xs at → remove xs at ≡ toggle e xs
  toggle_found within is =
      removed route_order IsKeyOrder-route_order e xs at rising within is
      ∙ sym (toggle-there e xs (sym (found_is_has xs e (Ok at) rising within is)))

  pub toggle_placed : at ≤ length xs → IsBinarySearchResult (λ y. route_order y e) xs (Err at)
      → insert xs at e ≡ toggle e xs
  toggle_placed within searched =
      inserted route_order IsKeyOrder-route_order e xs at within (split_where xs e at rising searched)
      ∙ sym (toggle-lacking e xs (sym (found_is_has xs e (Err at) rising within searched)))

  pub passed_found : (later : List RouteEntry) → at < length xs → HoldsAt (λ y. route_order y e ≡ Equal) xs at
      → IsRising route_order itself (e ∷ later)
      → take at xs ++ toggle_each later (drop (at + 1) xs) ≡ toggle_each (e ∷ later) xs
  passed_found later within is order =
      let next : at + 1 ≡ suc at = omega arith in
      let low = below-found route_order IsKeyOrder-route_order e xs at rising within is in
      ap (λ n. take at xs ++ toggle_each later (drop n xs)) next
      ∙ sym (toggled-behind later (take at xs) (drop (suc at) xs) (below-later e (take at xs) later low order))
      ∙ ap (toggle_each later) (toggle_found within is)

  pub passed_placed : (later : List RouteEntry) → at ≤ length xs
      → IsBinarySearchResult (λ y. route_order y e) xs (Err at) → IsRising route_order itself (e ∷ later)
      → (take at xs ++ e ∷ []) ++ toggle_each later (drop at xs) ≡ toggle_each (e ∷ later) xs
  passed_placed later within searched order =
      let low = below-place route_order IsKeyOrder-route_order (λ y. route_order y e ≡ Less) xs at within
      (split_where xs e at rising searched).0 in
      sym (toggled-behind later (take at xs ++ e ∷ []) (drop at xs) (below-later-with e (take at xs) later low order))
      ∙ ap (toggle_each later) (append_assoc (take at xs) (e ∷ []) (drop at xs))
      ∙ ap (toggle_each later) (toggle_placed within searched)
