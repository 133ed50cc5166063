-- Lists that are parts of others, in order.
use Rattle.std.proofs.Common.{◌≡◌, ◌⊎◌, List, [], ◌∷◌, ◌++◌, map, filter_map, Option, Some, None, refl, sym, ap, subst, ◌∙◌, inl, inr, ⊎_elim}
use Rattle.std.specs.List.{Contains, cons_option}
use Rattle.converge_laws.proofs.Public.{inside_first, inside_rest, first_or_rest, inside_map, from_map}
use Rattle.round_theorem.proofs.Lists.{Differ}

-- these are some of those, in order
abbrev pub IsPartOf : {X : Type 0} → List X → List X → Type 0
IsPartOf xs [] = xs ≡ []
IsPartOf {X = X} xs (y ∷ ys) = IsPartOf xs ys ⊎ ((rest : List X) × (xs ≡ y ∷ rest) × IsPartOf rest ys)

pub part_inside : {X : Type 0} (xs ys : List X) (x : X) → IsPartOf xs ys → Contains xs x → Contains ys x
part_inside xs [] x h inside = subst (λ zs. Contains zs x) h inside
part_inside xs (y ∷ ys) x (inl h) inside = inside_rest x y ys (part_inside xs ys x h inside)
part_inside xs (y ∷ ys) x (inr h) inside =
    ⊎_elim
    (λ (is : y ≡ x). subst (Contains (y ∷ ys)) is (inside_first y ys))
    (λ (later : Contains h.0 x). inside_rest x y ys (part_inside h.0 ys x h.2 later))
    (first_or_rest x y h.0 (subst (λ zs. Contains zs x) h.1 inside))

pub part_differ : {X : Type 0} (xs ys : List X) → IsPartOf xs ys → Differ ys → Differ xs
part_differ xs [] h d = subst Differ (sym h) tt
part_differ xs (y ∷ ys) (inl h) d = part_differ xs ys h d.1
part_differ xs (y ∷ ys) (inr h) d =
    subst Differ (sym h.1) ((λ z inside. d.0 z (part_inside h.0 ys z h.2 inside)), part_differ h.0 ys h.2 d.1)

pub part_append : {X : Type 0} (as' bs cs ds : List X) → IsPartOf as' bs → IsPartOf cs ds
    → IsPartOf (as' ++ cs) (bs ++ ds)
part_append as' [] cs ds f g = subst (λ xs. IsPartOf (xs ++ cs) ds) (sym f) g
part_append as' (b ∷ bs) cs ds (inl f) g = inl (part_append as' bs cs ds f g)
part_append as' (b ∷ bs) cs ds (inr f) g = inr (f.0 ++ cs, ap (λ xs. xs ++ cs) f.1, part_append f.0 bs cs ds f.2 g)

part_kept : {X Y Z : Type 0} (f : X → Option Y) (g : X → Z) (h : Y → Z) (x : X) (xs : List X) (o : Option Y) → f x ≡ o
    → ((x : X) (y : Y) → f x ≡ Some y → h y ≡ g x)
    → IsPartOf (map h (filter_map f xs)) (map g xs) → IsPartOf (map h (cons_option o (filter_map f xs)))
    (g x ∷ map g xs)
part_kept f g h x xs None is told rest = inl rest
part_kept f g h x xs (Some y) is told rest = inr (
  map h (filter_map f xs),
  ap (λ z. z ∷ map h (filter_map f xs)) (told x y is),
  rest,
)

-- what is kept of a list
pub kept_part : {X Y Z : Type 0} (f : X → Option Y) (g : X → Z) (h : Y → Z)
    → ((x : X) (y : Y) → f x ≡ Some y → h y ≡ g x) → (xs : List X) → IsPartOf (map h (filter_map f xs)) (map g xs)
kept_part f g h told [] = refl
kept_part f g h told (x ∷ xs) = part_kept f g h x xs (f x) refl told (kept_part f g h told xs)

-- what differs by one thing differs by another that shows it
pub differ_by : {X A B : Type 0} (f : X → A) (g : X → B) → ((x y : X) → g x ≡ g y → f x ≡ f y) → (xs : List X)
    → Differ (map f xs) → Differ (map g xs)
differ_by f g shows [] h = tt
differ_by f g shows (x ∷ xs) h = (
  λ b inside same. let m = from_map g xs b inside in h.0 (f m.0) (inside_map f xs m.0 m.1) (shows m.0 x (m.2 ∙ same)),
  differ_by f g shows xs h.1,
)
