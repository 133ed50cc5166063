-- The order of spots, and the set of them as a cell moves.
use Rattle.std.proofs.Common.{◌≡◌, ◌≢◌, ℕ, ◌<◌, true, false, cond, List, length, set, get_or, refl, ◌⊎◌, inl, inr, sym, ap, subst, ◌∙◌}
use Rattle.std.specs.BTreeMap.{is_at}
use Rattle.std.specs.BTreeSet.{BTreeSet, contains, IsFromIterResult}
use Rattle.std.specs.List.{Contains}
use Rattle.std.specs.Cmp.{nat_cmp_total, on_total, then_total, tied_itself}
use Rattle.std.specs.FinMap.{nat_cmp-IsAntisymmetric}
use Rattle.std.specs.Ordering.{nat_cmp, is_eq}
use Rattle.std.specs.declared.cmp.Ordering.{Ordering}
use Rattle.std.specs.declared.cmp.Ordering.TheVariants.{Less, Equal, Greater}
use Rattle.std.proofs.lemmas.Bool.{cases_eq}
use Rattle.std.proofs.lemmas.List.{length-set, get_or-set_same, get_or-set_other, get_or_read}
use Rattle.std.proofs.lemmas.List.Elements.{Contains-get_or}
use Rattle.std.proofs.lemmas.Map.Views.{btree_set_contains_from_list}
use Rattle.row_tables.specs.Table.{IsKeyOrder}
use Rattle.auctioneer.specs.Spots.{spot_order, IsOrderOf}
use Rattle.auctioneer.specs.declared.spots.Spot.{Spot}
use Rattle.auctioneer.proofs.TurnOrder.{both_tie}

pub IsKeyOrder-spot_order : IsKeyOrder spot_order
IsKeyOrder-spot_order = record {
  total =
      then_total (on_total (λ p. p.group) nat_cmp_total)
      (then_total (on_total (λ p. p.in_zone) nat_cmp_total)
      (then_total (on_total (λ p. p.on_cell) nat_cmp_total)
      (then_total (on_total (λ p. p.load) nat_cmp_total) (on_total (λ p. p.cell) nat_cmp_total))));
  exact = λ x y e i.
      let group = both_tie (nat_cmp x.group y.group) _ e in
      let zone = both_tie (nat_cmp x.in_zone y.in_zone) _ group.1 in
      let on_cell = both_tie (nat_cmp x.on_cell y.on_cell) _ zone.1 in
      let load = both_tie (nat_cmp x.load y.load) (nat_cmp x.cell y.cell) on_cell.1 in
      record {
        group = nat_cmp-IsAntisymmetric x.group y.group group.0 i;
        in_zone = nat_cmp-IsAntisymmetric x.in_zone y.in_zone zone.0 i;
        on_cell = nat_cmp-IsAntisymmetric x.on_cell y.on_cell on_cell.0 i;
        load = nat_cmp-IsAntisymmetric x.load y.load load.0 i;
        cell = nat_cmp-IsAntisymmetric x.cell y.cell load.1 i;
      };
}

tied : (o : Ordering) → is_eq o ≡ true → o ≡ Equal
tied Less e = cc
tied Equal e = refl
tied Greater e = cc

-- the test of spots says whether they are one
pub spot_from_test : (a b : Spot) → is_at (spot_order a) b ≡ true → a ≡ b
spot_from_test a b e = IsKeyOrder-spot_order.exact a b (tied (spot_order a b) e)

pub test_from_spot : (a b : Spot) → a ≡ b → is_at (spot_order a) b ≡ true
test_from_spot a b e = ap is_eq (subst (λ (x : Spot). spot_order a x ≡ Equal) e
    (tied_itself IsKeyOrder-spot_order.total a))

-- a cell's spot is its place's
abbrev pub AreCellsOf : List Spot → Type 0
AreCellsOf spots = (k : ℕ) (p : Spot) → k < length spots → (get_or spots k p).cell ≡ k

-- some of the spots
abbrev pub AreAmong : List Spot → List Spot → Type 0
AreAmong kept spots = (q : Spot) → Contains kept q → (q.cell < length spots) × (get_or spots q.cell q ≡ q)

pub AreAmong-itself : (spots : List Spot) → AreCellsOf spots → AreAmong spots spots
AreAmong-itself spots cells q at =
    let cell : q.cell ≡ at.0 = sym (ap (λ (x : Spot). x.cell) at.2) ∙ cells at.0 q at.1 in
    (subst (λ n. n < length spots) (sym cell) at.1, ap (λ n. get_or spots n q) cell ∙ at.2)

-- a set that was made of some of the spots
pub IsOrderOf-made : (order : BTreeSet Spot) (kept spots : List Spot) → AreAmong kept spots
    → IsFromIterResult spot_order kept order → IsOrderOf order spots
IsOrderOf-made order kept spots among made =
    let there = λ (q : Spot) (e : contains spot_order order q ≡ true).
    (btree_set_contains_from_list IsKeyOrder-spot_order.total IsKeyOrder-spot_order.exact kept order made q).0
    e in
    record { inside = λ q e. (among q (there q e)).0; is = λ q e. (among q (there q e)).1 }

-- it has each spot that it was made of
pub IsOrderOf-whole : (order : BTreeSet Spot) (spots : List Spot) → IsFromIterResult spot_order spots order
    → (k : ℕ) (p : Spot) → k < length spots → contains spot_order order (get_or spots k p) ≡ true
IsOrderOf-whole order spots made k p below =
    (btree_set_contains_from_list IsKeyOrder-spot_order.total IsKeyOrder-spot_order.exact spots order made
    (get_or spots k p)).1 (Contains-get_or spots k p below)

-- a set into which one spot was put, and from which another of the same cell was then taken
module _ (order mid new : BTreeSet Spot) (spots : List Spot) (at : ℕ) (before after : Spot) (inside : at < length spots)
    (cells : AreCellsOf spots) (was : before ≡ get_or spots at before) (cell : after.cell ≡ before.cell)
    (other : before ≢ after) (inserted : (q : Spot) → contains spot_order mid q
    ≡ cond (is_at (spot_order after) q) true (contains spot_order order q))
    (removed : (q : Spot) → contains spot_order new q ≡ cond (is_at (spot_order before) q) false
    (contains spot_order mid q)) (h : IsOrderOf order spots) where
  there : after.cell ≡ at
  there = cell ∙ ap (λ (x : Spot). x.cell) was ∙ cells at before inside

  -- another spot than the old one is there if it was put in
  kept : (q : Spot) → before ≢ q → contains spot_order new q
      ≡ cond (is_at (spot_order after) q) true (contains spot_order order q)
  kept q apart =
      let no : is_at (spot_order before) q ≡ false =
      elim (is_at (spot_order before) q) as (λ t. is_at (spot_order before) q ≡ t → t ≡ false) [
        | true ↦ λ yes. absurd (apart (spot_from_test before q yes))
        | false ↦ λ no. refl
      ] refl in
      removed q ∙ ap (λ t. cond t false (contains spot_order mid q)) no ∙ inserted q

  -- the spot of another cell stays
  stays : (q : Spot) → contains spot_order order q ≡ true → q.cell ≢ at → contains spot_order new q ≡ true
  stays q e apart =
      kept q (λ same. apart (sym (ap (λ (x : Spot). x.cell) same) ∙ sym cell ∙ there))
      ∙ ap (cond (is_at (spot_order after) q) true) e
      ∙ elim (is_at (spot_order after) q) as (λ t. cond t true true ≡ true) [ true ↦ refl | false ↦ refl ]

  -- each spot is the new one, or one of before and not the old one
  came : (q : Spot) → contains spot_order new q ≡ true → (after ≡ q)
      ⊎ ((contains spot_order order q ≡ true) × (before ≢ q))
  came q e =
      elim (is_at (spot_order before) q) as (λ t. is_at (spot_order before) q ≡ t
      → cond t false (contains spot_order mid q) ≡ true → (after ≡ q)
      ⊎ ((contains spot_order order q ≡ true) × (before ≢ q))) [
        | true ↦ λ yes f. absurd cc
        | false ↦ λ no f.
            elim (is_at (spot_order after) q) as (λ t. is_at (spot_order after) q ≡ t
            → cond t true (contains spot_order order q) ≡ true
            → (after ≡ q) ⊎ ((contains spot_order order q ≡ true) × (before ≢ q))) [
              | true ↦ λ yes g. inl (spot_from_test after q yes)
              | false ↦ λ off g. inr (
                g,
                λ same. let yes : is_at (spot_order before) q ≡ true =
                    test_from_spot before q same in absurd cc,
              )
            ] refl (sym (inserted q) ∙ f)
      ] refl (sym (removed q) ∙ e)

  pub IsOrderOf-moved : IsOrderOf new (set spots at after)
  IsOrderOf-moved = record {
    inside = λ q e.
        let within : q.cell < length spots =
        elim (came q e) [
          | (inl same) ↦ subst (λ n. n < length spots) (sym there ∙ ap (λ (x : Spot). x.cell) same) inside
          | (inr old) ↦ h.inside q old.0
        ] in
        simp length-set within;
    is = λ q e.
        elim (came q e) [
          | (inl same) ↦
              let cell_q : q.cell ≡ at = sym (ap (λ (x : Spot). x.cell) same) ∙ there in
              ap (λ n. get_or (set spots at after) n q) cell_q ∙ get_or-set_same spots at after q inside ∙ same
          | (inr old) ↦
              let apart : q.cell ≢ at = λ f. old.1 (get_or_read spots at before inside was q ∙ ap
              (λ n. get_or spots n q) (sym f) ∙ h.is q old.0) in
              get_or-set_other spots at q.cell after q apart ∙ h.is q old.0
        ];
  }

  -- what is left out was left out
  pub left_out_before : (k : ℕ) (p : Spot) → k < length (set spots at after)
      → contains spot_order new (get_or (set spots at after) k p) ≡ false
      → (get_or (set spots at after) k p ≡ get_or spots k p) × (contains spot_order order (get_or spots k p) ≡ false)
  left_out_before k p below out =
      elim (cases_eq k at) [
        | (inl same) ↦
            let here : get_or (set spots at after) k p ≡ after = ap (λ n. get_or (set spots at after) n p) same
            ∙ get_or-set_same spots at after p inside in
            let yes : contains spot_order new (get_or (set spots at after) k p) ≡ true =
            ap (contains spot_order new) here ∙ kept after other
            ∙ ap (λ t. cond t true (contains spot_order order after)) (test_from_spot after after refl) in
            absurd cc
        | (inr apart) ↦
            let within : k < length spots = simp length-set at below in
            let here : get_or (set spots at after) k p ≡ get_or spots k p =
            get_or-set_other spots at k after p apart in (
              here,
              elim (contains spot_order order (get_or spots k p)) as
                  (λ t. contains spot_order order (get_or spots k p) ≡ t → t ≡ false) [
                    | true ↦ λ was.
                        let yes : contains spot_order new (get_or (set spots at after) k p) ≡ true =
                        ap (contains spot_order new) here
                        ∙ stays (get_or spots k p) was (λ e. apart (sym (cells k p within) ∙ e)) in
                        absurd cc
                    | false ↦ λ no. refl
                  ] refl,
            )
      ]
