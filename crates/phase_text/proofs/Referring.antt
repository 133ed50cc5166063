-- A sort of what stands for elements is a sort of the elements.
use Rattle.std.proofs.Common.{◌≡◌, Bool, true, false, cond, List, [], ◌∷◌, map, refl, ap, ◌∙◌}
use Rattle.phase_text.specs.Sorting.{with_placed, sorted_by}

module _ {X Y : Type 0} (f : X → Y) (lt : Y → Y → Bool) where
  map_cond : (b : Bool) (xs ys : List X) → map f (cond b xs ys) ≡ cond b (map f xs) (map f ys)
  map_cond true xs ys = refl
  map_cond false xs ys = refl

  placed_map : (x : X) (ys : List X) → map f (with_placed (λ a b. lt (f a) (f b)) x ys) ≡ with_placed lt (f x) (map f ys)
  placed_map x [] = refl
  placed_map x (y ∷ ys) =
      map_cond (lt (f y) (f x)) (y ∷ with_placed (λ a b. lt (f a) (f b)) x ys) (x ∷ y ∷ ys)
      ∙ ap (λ zs. cond (lt (f y) (f x)) (f y ∷ zs) (f x ∷ f y ∷ map f ys)) (placed_map x ys)

  pub sorted_map : (xs : List X) → map f (sorted_by (λ a b. lt (f a) (f b)) xs) ≡ sorted_by lt (map f xs)
  sorted_map [] = refl
  sorted_map (x ∷ xs) =
      placed_map x (sorted_by (λ a b. lt (f a) (f b)) xs) ∙ ap (with_placed lt (f x)) (sorted_map xs)
