-- What filters leave of lists, element by element.
use Rattle.std.proofs.Common.{◌≡◌, ◌≢◌, ℕ, suc, ◌+◌, ◌<◌, ◌≤◌, Bool, true, false, cond, ◌||◌, List, [], ◌∷◌, ◌++◌, length, map, filter, take, drop, get_or, refl, sym, ap, ◌∙◌, arith, add-one}
use Rattle.std.specs.List.{AllPairs, flat_map, fold, list_any}
use Rattle.std.proofs.Math.Seq.{drop-cons}
use Rattle.std.proofs.lemmas.Grind.{flat_map-append}
use Rattle.std.proofs.lemmas.List.{append-nil, length-map, get_or-map, map-append, take_more}
use Rattle.std.proofs.lemmas.List.Concat.{flat_map-cons}
use Rattle.std.proofs.lemmas.List.Elements.{filter-append, filter_more}
use Rattle.std.proofs.lemmas.List.Folds.{list_any_more}
use Rattle.std.proofs.lemmas.List.Kept.{AllPairs-filter}
use Rattle.std.proofs.lemmas.List.Sums.{count_by-le-length, fold_push, length-filter}
use Rattle.auctioneer.specs.Stands.{same_name}
use Rattle.what_if.specs.Stays.{is_lost}

-- a test more, behind the others
pub or_last : (b a : Bool) → cond b true a ≡ (a || b)
or_last true true = refl
or_last true false = refl
or_last false true = refl
or_last false false = refl

-- what is made of one element that may be left out
one_or_none : {X A : Type 0} (f : X → List A) (b : Bool) (x : X) → flat_map f (cond b (x ∷ []) []) ≡ cond b (f x) []
one_or_none f true x = flat_map-cons f x [] ∙ append-nil (f x)
one_or_none f false x = refl

-- what a filter leaves of one element more
pub filter_next : {X : Type 0} (p : X → Bool) (xs : List X) (i : ℕ) (x : X) → i < length xs → x ≡ get_or xs i x
    → filter p (take (i + 1) xs) ≡ filter p (take i xs) ++ cond (p x) (x ∷ []) []
filter_next {X} p xs i x lt e =
    filter_more p xs i x lt ∙ ap (λ (g : X). filter p (take i xs) ++ cond (p g) (g ∷ []) []) (sym e)

-- what is made of what a filter leaves, with one element more
pub flat_map_next : {X A : Type 0} (f : X → List A) (p : X → Bool) (xs : List X) (i : ℕ) (x : X) → i < length xs
    → x ≡ get_or xs i x → flat_map f (filter p (take (i + 1) xs)) ≡ flat_map f (filter p (take i xs))
    ++ cond (p x) (f x) []
flat_map_next {X} {A} f p xs i x lt e =
    ap (flat_map f) (filter_next p xs i x lt e)
    ∙ flat_map-append f (filter p (take i xs)) (cond (p x) (x ∷ []) [])
    ∙ ap (λ (ys : List A). flat_map f (filter p (take i xs)) ++ ys) (one_or_none f (p x) x)

-- the rest from an element on
pub drop_next : {X : Type 0} (xs : List X) (i : ℕ) (x : X) → i < length xs → x ≡ get_or xs i x
    → drop i xs ≡ x ∷ drop (i + 1) xs
drop_next {X} xs i x lt e =
    drop-cons xs i x lt ∙ ap (λ (g : X). g ∷ drop (suc i) xs) (sym e) ∙ ap (λ (n : ℕ). x ∷ drop n xs) (sym (add-one i))

-- elements with unlike keys
unlike : {X A : Type 0} (f : X → A) (xs : List X) → AllPairs (λ a b. a ≢ b) (map f xs) → AllPairs (λ a b. f a ≢ f b) xs
unlike f xs h i j d lt below same =
    let here : j < length (map f xs) = simp length-map below in
    let there : i < length xs = omega arith in
    h i j (f d) lt here (get_or-map f xs i d (f d) there ∙ same ∙ sym (get_or-map f xs j d (f d) below))

-- unlike keys of elements
unlike_keys : {X A : Type 0} (f : X → A) (xs : List X) → AllPairs (λ a b. f a ≢ f b) xs
    → AllPairs (λ a b. a ≢ b) (map f xs)
unlike_keys f [] h i j d lt below e = absurd (omega arith)
unlike_keys f (x ∷ xs) h i j d lt below e =
    let here : j < length (x ∷ xs) = simp length-map at below in
    let there : i < length (x ∷ xs) = omega arith in
    h i j x lt here (sym (get_or-map f (x ∷ xs) i x d there) ∙ e ∙ get_or-map f (x ∷ xs) j x d here)

-- a filter leaves unlike keys
pub filter_differs : {X A : Type 0} (f : X → A) (p : X → Bool) (xs : List X) → AllPairs (λ a b. a ≢ b) (map f xs)
    → AllPairs (λ a b. a ≢ b) (map f (filter p xs))
filter_differs f p xs h = unlike_keys f (filter p xs) (AllPairs-filter (λ a b. f a ≢ f b) p xs (unlike f xs h))

-- a filter adds nothing
pub shorter : {X : Type 0} (p : X → Bool) (xs : List X) → length (filter p xs) ≤ length xs
shorter p xs = rw length-filter (count_by-le-length p xs)

-- a test more
pub any_next : {X : Type 0} (p : X → Bool) (xs : List X) (i : ℕ) (x : X) → i < length xs → x ≡ get_or xs i x
    → list_any p (take (i + 1) xs) ≡ (list_any p (take i xs) || p x)
any_next {X} p xs i x lt e = list_any_more p xs i x lt ∙ ap (λ (g : X). list_any p (take i xs) || p g) (sym e)

-- a list made of each, with one element more
pub map_next : {X A : Type 0} (f : X → A) (xs : List X) (i : ℕ) (x : X) → i < length xs → x ≡ get_or xs i x
    → map f (take (i + 1) xs) ≡ map f (take i xs) ++ f x ∷ []
map_next {X} f xs i x lt e =
    ap (map f) (take_more xs i x lt) ∙ map-append f (take i xs) (get_or xs i x ∷ []) ∙ ap
    (λ (g : X). map f (take i xs) ++ f g ∷ []) (sym e)

-- and one of what is made of each
pub flat_next : {X A : Type 0} (f : X → List A) (xs : List X) (i : ℕ) (x : X) → i < length xs → x ≡ get_or xs i x
    → flat_map f (take (i + 1) xs) ≡ flat_map f (take i xs) ++ f x
flat_next {X} f xs i x lt e =
    ap (flat_map f) (take_more xs i x lt)
    ∙ flat_map-append f (take i xs) (get_or xs i x ∷ [])
    ∙ ap (λ (ys : List _). flat_map f (take i xs) ++ ys) (flat_map-cons f (get_or xs i x) [] ∙ append-nil
    (f (get_or xs i x)))
    ∙ ap (λ (g : X). flat_map f (take i xs) ++ f g) (sym e)

-- what a filter leaves of what is made of each
pub filter_map_next : {X A : Type 0} (f : X → A) (p : A → Bool) (xs : List X) (i : ℕ) (x : X) → i < length xs
    → x ≡ get_or xs i x → filter p (map f (take (i + 1) xs)) ≡ filter p (map f (take i xs))
    ++ cond (p (f x)) (f x ∷ []) []
filter_map_next f p xs i x lt e = ap (filter p) (map_next f xs i x lt e) ∙ filter-append p (map f (take i xs))
    (f x ∷ [])

-- a fold, with one element more
pub fold_next : {X A : Type 0} (f : A → X → A) (a : A) (xs : List X) (i : ℕ) (x : X) → i < length xs → x ≡ get_or xs i x
    → fold f a (take (i + 1) xs) ≡ f (fold f a (take i xs)) x
fold_next {X} f a xs i x lt e =
    ap (fold f a) (take_more xs i x lt) ∙ fold_push f a (take i xs) (get_or xs i x) ∙ ap (f (fold f a (take i xs)))
    (sym e)

-- a name more among those that are lost
pub lost_next : (names : List (List ℕ)) (i : ℕ) (x : List ℕ) → i < length names → x ≡ get_or names i x → (q : List ℕ)
    → is_lost (take (i + 1) names) q ≡ (is_lost (take i names) q || same_name x q)
lost_next names i x lt e q =
    list_any_more (λ n. same_name n q) names i x lt ∙ ap (λ (g : List ℕ). is_lost (take i names) q || same_name g q)
    (sym e)
