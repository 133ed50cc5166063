-- Where the spots of a group begin and end, and what follows of two of them in their order.
use Rattle.std.proofs.Common.{◌≡◌, ℕ, ◌+◌, ◌<◌, ◌≤◌, false, ◌⊎◌, inl, inr, refl, sym, ap, ◌∙◌, arith}
use Rattle.std.specs.Cmp.{nat_cmp_total, tied_itself}
use Rattle.std.specs.Ordering.{nat_cmp, is_gt, ordering_then}
use Rattle.std.specs.declared.cmp.Ordering.{Ordering}
use Rattle.std.specs.declared.cmp.Ordering.TheVariants.{Less, Equal, Greater}
use Rattle.std.proofs.lemmas.Bool.{cases_lt}
use Rattle.std.proofs.lemmas.Cmp.{ranked}
use Rattle.std.proofs.lemmas.Map.Keys.{le_from_not_gt}
use Rattle.auctioneer.specs.Spots.{spot_order}
use Rattle.auctioneer.specs.declared.spots.Spot.{Spot}
use Rattle.auctioneer.proofs.Offers.{not_above_then, cmp_below, not_above}

-- where the spots of a group begin
abbrev pub first_of : ℕ → Spot
first_of number = record { group = number; in_zone = 0; on_cell = 0; load = 0; cell = 0 }

-- by what spots of one group are ordered
abbrev pub in_group : Spot → Spot → Ordering
in_group q p =
    ordering_then (nat_cmp q.in_zone p.in_zone)
    (ordering_then (nat_cmp q.on_cell p.on_cell) (ordering_then (nat_cmp q.load p.load) (nat_cmp q.cell p.cell)))

-- no spot is before the first of its group
pub from_first : (number : ℕ) (q : Spot) → q.group ≡ number → is_gt (spot_order (first_of number) q) ≡ false
from_first number q e =
    not_above_then (nat_cmp number q.group) _ (not_above number q.group (omega arith)) (λ a.
    not_above_then (nat_cmp 0 q.in_zone) _ (not_above 0 q.in_zone (omega arith)) (λ b.
    not_above_then (nat_cmp 0 q.on_cell) _ (not_above 0 q.on_cell (omega arith)) (λ d.
    not_above_then (nat_cmp 0 q.load) _ (not_above 0 q.load (omega arith)) (λ f. not_above 0 q.cell (omega arith)))))

pub before_next : (number : ℕ) (q : Spot) → q.group ≡ number → spot_order q (first_of (number + 1)) ≡ Less
before_next number q e =
    ap (λ o. ordering_then o (in_group q (first_of (number + 1)))) (cmp_below q.group (number + 1) (omega arith))

first_less : (o p : Ordering) → ordering_then o p ≡ Less → (o ≡ Less) ⊎ (p ≡ Less)
first_less Less p e = inl refl
first_less Equal p e = inr e
first_less Greater p e = absurd cc

pub first_not_above : (o p : Ordering) → is_gt (ordering_then o p) ≡ false → is_gt o ≡ false
first_not_above Less p e = refl
first_not_above Equal p e = refl
first_not_above Greater p e = e

-- nothing is less than none
not_below_none : (n : ℕ) → nat_cmp n 0 ≡ Less → ⊥
not_below_none n below = let lt : n < 0 = ranked n 0 Less (sym below) in omega arith

none_before : (number : ℕ) (q : Spot) → in_group q (first_of number) ≡ Less → ⊥
none_before number q e =
    elim (first_less (nat_cmp q.in_zone 0) _ e) [
      | (inl below) ↦ not_below_none q.in_zone below
      | (inr f) ↦
          elim (first_less (nat_cmp q.on_cell 0) _ f) [
            | (inl below) ↦ not_below_none q.on_cell below
            | (inr g) ↦
                elim (first_less (nat_cmp q.load 0) (nat_cmp q.cell 0) g) [
                  | (inl below) ↦ not_below_none q.load below
                  | (inr below) ↦ not_below_none q.cell below
                ]
          ]
    ]

-- what is between belongs to the group
pub group_between : (number : ℕ) (q : Spot) → is_gt (spot_order (first_of number) q) ≡ false
    → spot_order q (first_of (number + 1)) ≡ Less → q.group ≡ number
group_between number q from upto =
    let above : number ≤ q.group = le_from_not_gt number q.group (first_not_above (nat_cmp number q.group) _ from) in
    elim (first_less (nat_cmp q.group (number + 1)) (in_group q (first_of (number + 1))) upto) [
      | (inl below) ↦ let lt : q.group < number + 1 = ranked q.group (number + 1) Less (sym below) in omega arith
      | (inr tie) ↦ absurd (none_before (number + 1) q tie)
    ]

-- an order that isn't above stays so where its second number grows
pub not_above_up : (a b most : ℕ) (o p : Ordering) → b ≤ most → is_gt (ordering_then (nat_cmp a b) o) ≡ false
    → (is_gt o ≡ false → is_gt p ≡ false) → is_gt (ordering_then (nat_cmp a most) p) ≡ false
not_above_up a b most o p up e next =
    elim (cases_lt a most) [
      | (inl lt) ↦ ap (λ t. is_gt (ordering_then t p)) (cmp_below a most lt)
      | (inr ge) ↦
          let least : a ≤ b = le_from_not_gt a b (first_not_above (nat_cmp a b) o e) in
          let here : b ≡ a = omega arith in
          let there : most ≡ a = omega arith in
          ap (λ t. is_gt (ordering_then t p)) (ap (nat_cmp a) there ∙ tied_itself nat_cmp_total a)
          ∙ next (sym (ap (λ t. is_gt (ordering_then t o)) (ap (nat_cmp a) here ∙ tied_itself nat_cmp_total a)) ∙ e)
    ]
