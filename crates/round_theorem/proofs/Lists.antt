-- Lists whose elements come of others.
use Rattle.std.proofs.Common.{◌≡◌, ◌≢◌, ℕ, zero, suc, ◌<◌, List, [], ◌∷◌, ◌++◌, length, map, get_or, set, filter_map, Option, Some, None, refl, sym, ap, subst, ◌∙◌, arith, ⊎_elim}
use Rattle.std.specs.List.{AllPairs, AllZip, Contains, cons_option}
use Rattle.std.proofs.lemmas.List.Elements.{Contains-append_cases}
use Rattle.converge_laws.proofs.Public.{inside_first, inside_rest, first_or_rest, inside_map}

inside_kept : {X Y : Type 0} (x : X) (ys : List X) (f : X → Option Y) (o : Option Y) (y : Y)
    → Contains (filter_map f ys) y → Contains (cons_option o (filter_map f ys)) y
inside_kept x ys f None y h = h
inside_kept x ys f (Some z) y h = inside_rest y z (filter_map f ys) h

-- what an element comes to is kept
pub kept_inside : {X Y : Type 0} (f : X → Option Y) (xs : List X) (x : X) (y : Y) → Contains xs x → f x ≡ Some y
    → Contains (filter_map f xs) y
kept_inside {Y = Y} f [] x y (k, lt, at) e = absurd (omega arith)
kept_inside {Y = Y} f (z ∷ xs) x y (zero, lt, at) e =
    subst (λ (o : Option Y). Contains (cons_option o (filter_map f xs)) y) (sym (ap f at ∙ e))
    (inside_first y (filter_map f xs))
kept_inside {Y = Y} f (z ∷ xs) x y (suc k, lt, at) e =
    inside_kept z xs f (f z) y (kept_inside f xs x y (k, omega arith, at) e)

-- two lists that agree place by place, by way of a third
pub zip_then : {X : Type 0} (R S Q : X → X → Type 0) → ((x y z : X) → R x y → S y z → Q x z) → (xs ys zs : List X)
    → AllZip R xs ys → AllZip S ys zs → AllZip Q xs zs
zip_then R S Q join [] [] [] f g = tt
zip_then R S Q join [] [] (z ∷ zs) f g = absurd g
zip_then R S Q join [] (y ∷ ys) zs f g = absurd f
zip_then R S Q join (x ∷ xs) [] zs f g = absurd f
zip_then R S Q join (x ∷ xs) (y ∷ ys) [] f g = absurd g
zip_then R S Q join (x ∷ xs) (y ∷ ys) (z ∷ zs) f g = (join x y z f.0 g.0, zip_then R S Q join xs ys zs f.1 g.1)

pub zip_same : {X : Type 0} (R : X → X → Type 0) → ((x : X) → R x x) → (xs : List X) → AllZip R xs xs
zip_same R same [] = tt
zip_same R same (x ∷ xs) = (same x, zip_same R same xs)

-- both are there and agree, or neither is
abbrev pub AgreeIf : {X : Type 0} → (X → X → Type 0) → Option X → Option X → Type 0
AgreeIf R None None = Unit {0}
AgreeIf R None (Some y) = ⊥
AgreeIf R (Some x) None = ⊥
AgreeIf R (Some x) (Some y) = R x y

pub agree_then : {X : Type 0} (R S Q : X → X → Type 0) → ((x y z : X) → R x y → S y z → Q x z) → (a b c : Option X)
    → AgreeIf R a b → AgreeIf S b c → AgreeIf Q a c
agree_then R S Q join None None None f g = tt
agree_then R S Q join None None (Some z) f g = absurd g
agree_then R S Q join None (Some y) c f g = absurd f
agree_then R S Q join (Some x) None c f g = absurd f
agree_then R S Q join (Some x) (Some y) None f g = absurd g
agree_then R S Q join (Some x) (Some y) (Some z) f g = join x y z f g

zip_kept : {X : Type 0} (R : X → X → Type 0) (a b : Option X) (xs ys : List X) → AgreeIf R a b → AllZip R xs ys
    → AllZip R (cons_option a xs) (cons_option b ys)
zip_kept R None None xs ys f g = g
zip_kept R None (Some y) xs ys f g = absurd f
zip_kept R (Some x) None xs ys f g = absurd f
zip_kept R (Some x) (Some y) xs ys f g = (f, g)

pub agree_same : {X : Type 0} (R : X → X → Type 0) (o : Option X) → ((x : X) → o ≡ Some x → R x x) → AgreeIf R o o
agree_same R None same = tt
agree_same R (Some x) same = same x refl

module _ {A X : Type 0} (R : X → X → Type 0) (f : A → Option X) where
  zip_others : (xs : List A) → ((a : A) → Contains xs a → (x : X) → f a ≡ Some x → R x x)
      → AllZip R (filter_map f xs) (filter_map f xs)
  zip_others [] same = tt
  zip_others (a ∷ xs) same = zip_kept R (f a) (f a) (filter_map f xs) (filter_map f xs)
      (agree_same R (f a) (same a (inside_first a xs))) (zip_others xs (λ b inside. same b (inside_rest b a xs inside)))

  -- one element is changed, and the others agree with themselves
  pub zip_set : (xs : List A) (at : ℕ) (a b : A) → at < length xs → a ≡ get_or xs at a → AgreeIf R (f a) (f b)
      → ((k : ℕ) (c : A) → k < length xs → c ≡ get_or xs k c → k ≢ at → (x : X) → f c ≡ Some x → R x x)
      → AllZip R (filter_map f xs) (filter_map f (set xs at b))
  zip_set [] at a b within is one others = absurd (omega arith)
  zip_set (x ∷ xs) zero a b within is one others =
      zip_kept R (f x) (f b) (filter_map f xs) (filter_map f xs) (subst (λ c. AgreeIf R (f c) (f b)) is one)
      (zip_others xs (λ c inside. others (suc inside.0) c (omega (arith, inside.1)) (sym inside.2)
      (λ e. omega (arith, e))))
  zip_set (x ∷ xs) (suc k) a b within is one others =
      zip_kept R (f x) (f x) (filter_map f xs) (filter_map f (set xs k b))
      (agree_same R (f x) (others 0 x (omega arith) refl (λ e. omega (arith, e))))
      (zip_set xs k a b (omega arith) is one (λ n c lt at ne.
      others (suc n) c (omega arith) at (λ e. ne (omega (arith, e)))))

-- no two elements are one
abbrev pub Differ : {X : Type 0} → List X → Type 0
Differ [] = Unit {0}
Differ {X = X} (x ∷ xs) = ((y : X) → Contains xs y → y ≢ x) × Differ xs

pub differ_pairs : {X : Type 0} (xs : List X) → AllPairs (λ a b. a ≢ b) xs → Differ xs
differ_pairs [] h = tt
differ_pairs (x ∷ xs) h = (
  λ y inside e. h 0 (suc inside.0) y (omega arith) (omega (arith, inside.1)) (sym (inside.2 ∙ e)),
  differ_pairs xs (λ i j d lt below. h (suc i) (suc j) d (omega arith) (omega arith)),
)

pub differ_append : {X : Type 0} (xs ys : List X) → Differ xs → Differ ys
    → ((x y : X) → Contains xs x → Contains ys y → y ≢ x) → Differ (xs ++ ys)
differ_append [] ys f g ne = g
differ_append (x ∷ xs) ys f g ne = (
  λ y inside e. ⊎_elim (λ here. f.0 y here e) (λ there. ne x y (inside_first x xs) there e)
      (Contains-append_cases xs ys y inside),
  differ_append xs ys f.1 g (λ a b in_a in_b. ne a b (inside_rest a x xs in_a) in_b),
)

-- where names differ, an element is told by its name
pub one_of_name : {X N : Type 0} (f : X → N) (xs : List X) → Differ (map f xs) → (x y : X) → Contains xs x
    → Contains xs y → f x ≡ f y → x ≡ y
one_of_name f [] h x y in_x in_y e = absurd (omega (arith, in_x.1))
one_of_name f (z ∷ xs) h x y in_x in_y e =
    ⊎_elim
    (λ (here : z ≡ x). ⊎_elim
    (λ (there : z ≡ y). sym here ∙ there)
    (λ (rest : Contains xs y). absurd (h.0 (f y) (inside_map f xs y rest) (sym e ∙ ap f (sym here))))
    (first_or_rest y z xs in_y))
    (λ (rest : Contains xs x). ⊎_elim
    (λ (there : z ≡ y). absurd (h.0 (f x) (inside_map f xs x rest) (e ∙ ap f (sym there))))
    (λ (later : Contains xs y). one_of_name f xs h.1 x y rest later e)
    (first_or_rest y z xs in_y))
    (first_or_rest x z xs in_x)
