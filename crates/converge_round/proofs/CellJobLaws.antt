-- The jobs that are kept for a cell, once one was taken out and put back with a job more.
use Rattle.std.proofs.Common.{◌≡◌, ◌≢◌, ℕ, Bool, true, false, cond, List, [], ◌++◌, Option, Some, None, refl, sym, ap, subst, ◌∙◌}
use Rattle.std.specs.Cmp.{tied_itself}
use Rattle.std.specs.Option.{unwrap_or}
use Rattle.std.specs.Ordering.{is_eq}
use Rattle.std.specs.declared.cmp.Ordering.{Ordering}
use Rattle.std.specs.declared.cmp.Ordering.TheVariants.{Less, Equal, Greater}
use Rattle.std.proofs.lemmas.List.{append-nil}
use Rattle.std.proofs.lemmas.Bool.Decides.{Decides-eqb}
use Rattle.std.proofs.lemmas.Slice.Eq.{slice_eq-Decides}
use Rattle.diego_names.specs.Order.{name_order}
use Rattle.diego_names.proofs.Public.{IsKeyOrder-name_order}
use Rattle.auctioneer.specs.Stands.{same_name}

equal-from : (o : Ordering) → is_eq o ≡ true → o ≡ Equal
equal-from Less e = absurd cc
equal-from Equal e = refl
equal-from Greater e = absurd cc

-- names that are tied are one
pub tied-same : (a b : List ℕ) → is_eq (name_order a b) ≡ true → a ≡ b
tied-same a b e = IsKeyOrder-name_order.exact a b (equal-from (name_order a b) e)

not-tied : (a b : List ℕ) → is_eq (name_order a b) ≡ false → a ≢ b
not-tied a b e same =
    let tie : is_eq (name_order a b) ≡ true = ap is_eq (subst (λ c. name_order a c ≡ Equal) same
    (tied_itself IsKeyOrder-name_order.total a)) in
    let bad : true ≡ false = sym tie ∙ e in
    absurd cc

test-of : (a b : List ℕ) (t : Bool) → is_eq (name_order a b) ≡ t → same_name a b ≡ t
test-of a b true e = (slice_eq-Decides Decides-eqb a b (same_name a b) refl).1 (tied-same a b e)
test-of a b false e =
    elim (same_name a b) as (λ t. same_name a b ≡ t → t ≡ false) [
      | true ↦ λ s. absurd (not-tied a b e ((slice_eq-Decides Decides-eqb a b (same_name a b) refl).0 s))
      | false ↦ λ s. refl
    ] refl

module _ {X : Type 0} (get old : List ℕ → Option (List X)) (cell : List ℕ) (more next : List X)
    (next_is : next ≡ unwrap_or (old cell) [] ++ more) where
  by_tie : (other : List ℕ) (t : Bool) → is_eq (name_order cell other) ≡ t
      → get other ≡ cond t (Some next) (cond t None (old other))
      → unwrap_or (get other) [] ≡ unwrap_or (old other) [] ++ cond t more []
  by_tie other true tie is =
      ap (λ (o : Option (List X)). unwrap_or o []) is ∙ next_is
      ∙ ap (λ (c : List ℕ). unwrap_or (old c) [] ++ more) (tied-same cell other tie)
  by_tie other false tie is = ap (λ (o : Option (List X)). unwrap_or o []) is ∙ sym
      (append-nil (unwrap_or (old other) []))

  -- what is kept for each cell then
  pub kept-added : (other : List ℕ) → get other ≡ cond (is_eq (name_order cell other)) (Some next)
      (cond (is_eq (name_order cell other)) None (old other))
      → unwrap_or (get other) [] ≡ unwrap_or (old other) [] ++ cond (same_name cell other) more []
  kept-added other is =
      by_tie other (is_eq (name_order cell other)) refl is
      ∙ ap (λ b. unwrap_or (old other) [] ++ cond b more [])
      (sym (test-of cell other (is_eq (name_order cell other)) refl))
