-- Sums, counts and filters, by what each element is.
use Rattle.std.proofs.Common.{◌≡◌, ◌≢◌, ℕ, zero, suc, ◌+◌, ◌≤◌, Bool, true, false, cond, List, [], ◌∷◌, length, map, filter, ◌⊎◌, inl, inr, refl, sym, ap, subst, ◌∙◌, arith}
use Rattle.std.specs.List.{All, Contains, sum_by}
use Rattle.std.proofs.lemmas.List.{length-map, get_or-map}
use Rattle.std.proofs.lemmas.List.Elements.{All-contains}
use Rattle.std.proofs.lemmas.List.Sums.{sum_by-cons, get_or-le-sum_by}

-- an element of a list is its first, or one of the others
pub contains_cases : {X : Type 0} (x : X) (xs : List X) (y : X) → Contains (x ∷ xs) y → (x ≡ y) ⊎ Contains xs y
contains_cases x xs y (zero, lt, at) = inl at
contains_cases x xs y (suc k, lt, at) = inr (k, omega arith, at)

pub first : {X : Type 0} (x : X) (xs : List X) → Contains (x ∷ xs) x
first x xs = (0, omega arith, refl)

pub later : {X : Type 0} (x : X) (xs : List X) (y : X) → Contains xs y → Contains (x ∷ xs) y
later x xs y (k, lt, at) = (suc k, omega arith, at)

pub Contains-map : {X Y : Type 0} (f : X → Y) (xs : List X) (y : X) → Contains xs y → Contains (map f xs) (f y)
Contains-map f xs y (k, lt, at) = (k, simp length-map lt, get_or-map f xs k y (f y) lt ∙ ap f at)

module _ {X : Type 0} where
  -- sums of numbers that are the same, or at most, at each element
  pub sum_by-same : (f g : X → ℕ) (xs : List X) → ((x : X) → Contains xs x → f x ≡ g x) → sum_by f xs ≡ sum_by g xs
  sum_by-same f g [] h = refl
  sum_by-same f g (x ∷ xs) h =
      let head : f x ≡ g x = h x (first x xs) in
      let rest : sum_by f xs ≡ sum_by g xs = sum_by-same f g xs (λ y i. h y (later x xs y i)) in
      sum_by-cons f x xs ∙ (λ i. head i + rest i) ∙ sym (sum_by-cons g x xs)

  pub sum_by-at_most : (f g : X → ℕ) (xs : List X) → ((x : X) → Contains xs x → f x ≤ g x) → sum_by f xs ≤ sum_by g xs
  sum_by-at_most f g [] h = omega arith
  sum_by-at_most f g (x ∷ xs) h =
      let head : f x ≤ g x = h x (first x xs) in
      let rest : sum_by f xs ≤ sum_by g xs = sum_by-at_most f g xs (λ y i. h y (later x xs y i)) in
      let one : sum_by f (x ∷ xs) ≡ f x + sum_by f xs = sum_by-cons f x xs in
      let other : sum_by g (x ∷ xs) ≡ g x + sum_by g xs = sum_by-cons g x xs in
      omega arith

  pub sum_by-plus : (f g : X → ℕ) (xs : List X) → sum_by (λ x. f x + g x) xs ≡ sum_by f xs + sum_by g xs
  sum_by-plus f g [] = refl
  sum_by-plus f g (x ∷ xs) =
      let rest : sum_by (λ x. f x + g x) xs ≡ sum_by f xs + sum_by g xs = sum_by-plus f g xs in
      let both : sum_by (λ x. f x + g x) (x ∷ xs) ≡ f x + g x + sum_by (λ x. f x + g x) xs =
      sum_by-cons (λ x. f x + g x) x xs in
      let one : sum_by f (x ∷ xs) ≡ f x + sum_by f xs = sum_by-cons f x xs in
      let other : sum_by g (x ∷ xs) ≡ g x + sum_by g xs = sum_by-cons g x xs in
      omega arith

  pub sum_by-none : (f : X → ℕ) (xs : List X) → ((x : X) → Contains xs x → f x ≡ 0) → sum_by f xs ≡ 0
  sum_by-none f [] h = refl
  sum_by-none f (x ∷ xs) h =
      let head : f x ≡ 0 = h x (first x xs) in
      let rest : sum_by f xs ≡ 0 = sum_by-none f xs (λ y i. h y (later x xs y i)) in
      let one : sum_by f (x ∷ xs) ≡ f x + sum_by f xs = sum_by-cons f x xs in
      omega arith

  pub sum_by-ones : (f : X → ℕ) (xs : List X) → ((x : X) → Contains xs x → f x ≡ 1) → sum_by f xs ≡ length xs
  sum_by-ones f [] h = refl
  sum_by-ones f (x ∷ xs) h =
      let head : f x ≡ 1 = h x (first x xs) in
      let rest : sum_by f xs ≡ length xs = sum_by-ones f xs (λ y i. h y (later x xs y i)) in
      let one : sum_by f (x ∷ xs) ≡ f x + sum_by f xs = sum_by-cons f x xs in
      omega arith

  -- what stands where a test passes is added up
  pub sum_by-filter : (f : X → ℕ) (p : X → Bool) (xs : List X)
      → sum_by f (filter p xs) ≡ sum_by (λ x. cond (p x) (f x) 0) xs
  sum_by-filter f p [] = refl
  sum_by-filter f p (x ∷ xs) =
      let rest = sum_by-filter f p xs in
      elim (p x) as (λ b. sum_by f (cond b (x ∷ filter p xs) (filter p xs))
      ≡ cond b (f x) 0 + sum_by (λ x. cond (p x) (f x) 0) xs) [
        | true ↦ sum_by-cons f x (filter p xs) ∙ ap (λ n. f x + n) rest
        | false ↦ rest ∙ nothing_more (sum_by (λ x. cond (p x) (f x) 0) xs)
      ] ∙ sym (sum_by-cons (λ x. cond (p x) (f x) 0) x xs)
    where
      nothing_more : (n : ℕ) → n ≡ 0 + n
      nothing_more n = omega arith

  -- what passes a test is in the list and passes, and the other way round
  pub Contains-from_filter : (p : X → Bool) (xs : List X) (y : X) → Contains (filter p xs) y → Contains xs y
  Contains-from_filter p [] y h = h
  Contains-from_filter p (x ∷ xs) y h =
      elim (p x) as (λ b. Contains (cond b (x ∷ filter p xs) (filter p xs)) y → Contains (x ∷ xs) y) [
        | true ↦ λ i. elim (contains_cases x (filter p xs) y i) [
          | (inl at) ↦ (0, omega arith, at)
          | (inr there) ↦ later x xs y (Contains-from_filter p xs y there)
        ]
        | false ↦ λ i. later x xs y (Contains-from_filter p xs y i)
      ] h

  pub Contains-filter : (p : X → Bool) (xs : List X) (y : X) → Contains xs y → p y ≡ true → Contains (filter p xs) y
  Contains-filter p [] y (k, lt, at) e = absurd (omega arith)
  Contains-filter p (x ∷ xs) y h e =
      elim (contains_cases x xs y h) [
        | (inl at) ↦
            let passes : p x ≡ true = ap p at ∙ e in
            subst (λ b. Contains (cond b (x ∷ filter p xs) (filter p xs)) y) (sym passes) (0, omega arith, at)
        | (inr there) ↦
            let rest = Contains-filter p xs y there e in
            elim (p x) as (λ b. Contains (cond b (x ∷ filter p xs) (filter p xs)) y) [
              | true ↦ later x (filter p xs) y rest
              | false ↦ rest
            ]
      ]

-- what each element adds up to at one of its places at least is no less than what all add up to
module _ {A B : Type 0} (w : A → ℕ) (test : A → B → Bool) where
  zero_first : (n : ℕ) → n ≡ 0 + n
  zero_first n = omega arith

  one_more : (a : A) (xs : List A) (b : B) → sum_by w (filter (λ x. test x b) (a ∷ xs))
      ≡ cond (test a b) (w a) 0 + sum_by w (filter (λ x. test x b) xs)
  one_more a xs b =
      let left = filter (λ x. test x b) xs in
      elim (test a b) as (λ t. sum_by w (cond t (a ∷ left) left) ≡ cond t (w a) 0 + sum_by w left) [
        | true ↦ sum_by-cons w a left
        | false ↦ zero_first (sum_by w left)
      ]

  pub spread : (xs : List A) (bs : List B) → ((a : A) → Contains xs a → (b : B) × Contains bs b × (test a b ≡ true))
      → sum_by w xs ≤ sum_by (λ b. sum_by w (filter (λ a. test a b) xs)) bs
  spread [] bs h = omega arith
  spread (a ∷ xs) bs h =
      let at = h a (first a xs) in
      let b : B = at.0 in
      let own : B → ℕ = λ b. cond (test a b) (w a) 0 in
      let others : B → ℕ = λ b. sum_by w (filter (λ x. test x b) xs) in
      let rest : sum_by w xs ≤ sum_by others bs = spread xs bs (λ x i. h x (later a xs x i)) in
      let here : own b ≤ sum_by own bs =
      subst (λ (y : B). own y ≤ sum_by own bs) at.1.2 (get_or-le-sum_by own bs at.1.0 b at.1.1) in
      let full : own b ≡ w a = ap (λ t. cond t (w a) 0) at.2 in
      let split : sum_by (λ b. sum_by w (filter (λ x. test x b) (a ∷ xs))) bs ≡ sum_by own bs + sum_by others bs =
      sum_by-same (λ b. sum_by w (filter (λ x. test x b) (a ∷ xs))) (λ b. own b + others b) bs
      (λ b i. one_more a xs b) ∙ sum_by-plus own others bs in
      let whole : sum_by w (a ∷ xs) ≡ w a + sum_by w xs = sum_by-cons w a xs in
      omega (arith, rest, here, full, split, whole)

-- elements of which no two are one
abbrev pub Apart : {X : Type 0} → List X → Type 0
Apart [] = Unit {0}
Apart (x ∷ xs) = All (λ y. x ≢ y) xs × Apart xs

pub other_key : {X Y : Type 0} (f : X → Y) (x : X) (xs : List X) (y : X) → All (λ z. f x ≢ z) (map f xs) → Contains xs y
    → f x ≢ f y
other_key f x xs y h i = All-contains (λ z. f x ≢ z) (map f xs) (f y) h (Contains-map f xs y i)

-- of two elements with one key there is one alone
pub same_element : {X Y : Type 0} (f : X → Y) (xs : List X) (a b : X) → Apart (map f xs) → Contains xs a → Contains xs b
    → f a ≡ f b → a ≡ b
same_element f [] a b h (k, lt, at) j e = absurd (omega arith)
same_element f (x ∷ xs) a b h i j e =
    elim (contains_cases x xs a i) [
      | (inl one) ↦ elim (contains_cases x xs b j) [
        | (inl other) ↦ sym one ∙ other
        | (inr there) ↦ absurd (other_key f x xs b h.0 there (ap f one ∙ e))
      ]
      | (inr there) ↦ elim (contains_cases x xs b j) [
        | (inl other) ↦ absurd (other_key f x xs a h.0 there (ap f other ∙ sym e))
        | (inr too) ↦ same_element f xs a b h.1 there too e
      ]
    ]
