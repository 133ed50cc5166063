-- Sums over things that have names of their own.
use Rattle.std.proofs.Common.{◌≡◌, ◌≢◌, ℕ, ◌+◌, Bool, true, cond, List, [], ◌∷◌, map, filter, inl, inr, refl, sym, ap, subst, ◌∙◌, arith}
use Rattle.std.specs.List.{All, Contains, count_by, flat_map, sum_by}
use Rattle.std.proofs.lemmas.List.Concat.{flat_map-cons}
use Rattle.std.proofs.lemmas.List.Elements.{All-contains, All-head, All-tail}
use Rattle.std.proofs.lemmas.List.Sums.{sum_by-append, sum_by-cons}
use Rattle.auctioneer.specs.Stands.{same_name}
use Rattle.room_facts.proofs.Lists.{contains_cases, sum_by-none}
use Rattle.what_if.proofs.Differing.{Contains-mapped, Differ, head-differs, tail-differs}
use Rattle.what_if.proofs.Names.{other_name, test_from_name}

module _ {X : Type 0} (name : X → List ℕ) (f : X → ℕ) where
  -- the number of the one thing of that name
  abbrev at_name : List ℕ → X → ℕ
  at_name n x = cond (same_name (name x) n) (f x) 0

  none_named : (n : List ℕ) (xs : List X) → All (λ m. n ≢ m) (map name xs) → sum_by (at_name n) xs ≡ 0
  none_named n xs apart =
      sum_by-none (at_name n) xs (λ x inside.
      ap (λ (b : Bool). cond b (f x) 0) (other_name (name x) n
      (λ e. All-contains (λ m. n ≢ m) (map name xs) (name x) apart (Contains-mapped name xs x inside) (sym e))))

  pub sum_at : (xs : List X) (x : X) → Differ (map name xs) → Contains xs x
      → sum_by (λ y. cond (same_name (name y) (name x)) (f y) 0) xs ≡ f x
  sum_at [] x differ (k, lt, at) = absurd (omega arith)
  sum_at (y ∷ ys) x differ inside =
      let whole : sum_by (at_name (name x)) (y ∷ ys) ≡ at_name (name x) y + sum_by (at_name (name x)) ys =
      sum_by-cons (at_name (name x)) y ys in
      elim (contains_cases y ys x inside) [
        | (inl at) ↦
            let here : at_name (name x) y ≡ f x =
            ap (λ (b : Bool). cond b (f y) 0) (test_from_name (name y) (name x) (ap name at)) ∙ ap f at in
            let others : sum_by (at_name (name x)) ys ≡ 0 =
            subst (λ (z : X). sum_by (at_name (name z)) ys ≡ 0) at
            (none_named (name y) ys (head-differs (name y) (map name ys) differ)) in
            omega (arith, whole, here, others)
        | (inr there) ↦
            let apart : name y ≢ name x = All-contains (λ m. name y ≢ m) (map name ys) (name x)
            (head-differs (name y) (map name ys) differ) (Contains-mapped name ys x there) in
            let here : at_name (name x) y ≡ 0 = ap (λ (b : Bool). cond b (f y) 0)
            (other_name (name y) (name x) apart) in
            let rest : sum_by (at_name (name x)) ys ≡ f x = sum_at ys x
            (tail-differs (name y) (map name ys) differ) there in
            omega (arith, whole, here, rest)
      ]

-- a count of what is made of each
pub count-flat_map : {X Y : Type 0} (p : Y → Bool) (f : X → List Y) (xs : List X)
    → count_by p (flat_map f xs) ≡ sum_by (λ x. count_by p (f x)) xs
count-flat_map p f [] = refl
count-flat_map p f (x ∷ xs) =
    ap (count_by p) (flat_map-cons f x xs)
    ∙ sum_by-append (λ y. cond (p y) 1 0) (f x) (flat_map f xs)
    ∙ ap (λ (n : ℕ). count_by p (f x) + n) (count-flat_map p f xs)
    ∙ sym (sum_by-cons (λ x. count_by p (f x)) x xs)

-- a filter that all pass
pub filter_all : {X : Type 0} (p : X → Bool) (xs : List X) → All (λ x. p x ≡ true) xs → filter p xs ≡ xs
filter_all p [] h = refl
filter_all p (x ∷ xs) h =
    ap (λ (b : Bool). cond b (x ∷ filter p xs) (filter p xs)) (All-head (λ y. p y ≡ true) x xs h)
    ∙ ap (λ (ys : List _). x ∷ ys) (filter_all p xs (All-tail (λ y. p y ≡ true) x xs h))
