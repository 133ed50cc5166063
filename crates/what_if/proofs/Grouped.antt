-- Values by their keys, with one more.
use Rattle.std.proofs.Common.{◌≡◌, ℕ, ◌+◌, ◌<◌, Bool, true, false, cond, List, [], ◌∷◌, ◌++◌, length, map, filter, take, get_or, Option, Some, None, refl, sym, ap, ◌∙◌}
use Rattle.std.specs.List.{cons_option, filter_map}
use Rattle.std.specs.Option.{option_eq, option_map, unwrap_or}
use Rattle.std.proofs.lemmas.List.{append-nil, map-append}
use Rattle.auctioneer.specs.Stands.{same_name}
use Rattle.what_if.specs.Baselines.{beside_holder}
use Rattle.what_if.specs.Holders.{found}
use Rattle.what_if.specs.declared.site.Wanted.{Wanted}
use Rattle.what_if.specs.declared.standing.Holders.{Holders}
use Rattle.what_if.proofs.Lists.{filter_next}

-- what is put there is found
pub put_or : {X : Type 0} (b : Bool) (x : X) (o : Option X) (d : X)
    → unwrap_or (cond b (Some x) o) d ≡ cond b x (unwrap_or o d)
put_or true x o d = refl
put_or false x o d = refl

-- a value behind those of its key, and none behind those of the others
pub one_behind : {K V : Type 0} (eq : K → K → Bool) → ((a b : K) → eq a b ≡ true → a ≡ b) → (at : K → List V)
    (key other : K) (value : V)
    → cond (eq key other) (at key ++ value ∷ []) (cond (eq key other) [] (at other)) ≡ at other
    ++ cond (eq key other) (value ∷ []) []
one_behind {K} {V} eq exact at key other value =
    elim (eq key other) as (λ b. eq key other ≡ b
    → cond b (at key ++ value ∷ []) (cond b [] (at other)) ≡ at other ++ cond b (value ∷ []) []) [
      | true ↦ λ e. ap (λ (k : K). at k ++ value ∷ []) (exact key other e)
      | false ↦ λ e. sym (append-nil (at other))
    ] refl

one_made : {X A : Type 0} (f : X → A) (b : Bool) (x : X) → map f (cond b (x ∷ []) []) ≡ cond b (f x ∷ []) []
one_made f true x = refl
one_made f false x = refl

-- what is made of what a filter leaves, with one element more
pub made_next : {X A : Type 0} (f : X → A) (p : X → Bool) (xs : List X) (i : ℕ) (x : X) → i < length xs
    → x ≡ get_or xs i x
    → map f (filter p (take (i + 1) xs)) ≡ map f (filter p (take i xs)) ++ cond (p x) (f x ∷ []) []
made_next {X} {A} f p xs i x lt e =
    ap (map f) (filter_next p xs i x lt e)
    ∙ map-append f (filter p (take i xs)) (cond (p x) (x ∷ []) [])
    ∙ ap (λ (ys : List A). map f (filter p (take i xs)) ++ ys) (one_made f (p x) x)

-- pairs of which the first passes
pub kept_pairs : {X A B : Type 0} (f : X → A) (g : X → B) (q : A → Bool) (xs : List X)
    → map (λ (p : A × B). p.1) (filter (λ (p : A × B). q p.0) (map (λ x. (f x, g x)) xs))
    ≡ map g (filter (λ x. q (f x)) xs)
kept_pairs f g q [] = refl
kept_pairs {X} {A} {B} f g q (x ∷ xs) =
    let rest = kept_pairs f g q xs in
    elim (q (f x)) as (λ b. map (λ (p : A × B). p.1) (cond b ((f x, g x) ∷ filter (λ (p : A × B). q p.0)
    (map (λ y. (f y, g y)) xs)) (filter (λ (p : A × B). q p.0) (map (λ y. (f y, g y)) xs)))
    ≡ map g (cond b (x ∷ filter (λ y. q (f y)) xs) (filter (λ y. q (f y)) xs))) [
      | true ↦ ap (λ (ys : List B). g x ∷ ys) rest
      | false ↦ rest
    ]

-- the instances beside the cells that hold them
pub kept_holders : (holders : Holders) (cell : List ℕ) (ws : List Wanted)
    → map (λ (p : List ℕ × Wanted). p.1)
    (filter (λ (p : List ℕ × Wanted). same_name p.0 cell) (filter_map (beside_holder holders) ws))
    ≡ filter (λ w. option_eq same_name (found holders w.key) (Some cell)) ws
kept_holders holders cell [] = refl
kept_holders holders cell (w ∷ ws) =
    let more : List (List ℕ × Wanted) = filter_map (beside_holder holders) ws in
    let left : List Wanted = filter (λ v. option_eq same_name (found holders v.key) (Some cell)) ws in
    let rest = kept_holders holders cell ws in
    elim (found holders w.key) as (λ (o : Option (List ℕ)). map (λ (p : List ℕ × Wanted). p.1)
    (filter (λ (p : List ℕ × Wanted). same_name p.0 cell) (cons_option (option_map (λ c. (c, w)) o) more))
    ≡ cond (option_eq same_name o (Some cell)) (w ∷ left) left) [
      | None ↦ rest
      | (Some x) ↦ elim (same_name x cell) as (λ b. map (λ (p : List ℕ × Wanted). p.1)
          (cond b ((x, w) ∷ filter (λ (p : List ℕ × Wanted). same_name p.0 cell) more)
          (filter (λ (p : List ℕ × Wanted). same_name p.0 cell) more)) ≡ cond b (w ∷ left) left) [
            | true ↦ ap (λ (ys : List Wanted). w ∷ ys) rest
            | false ↦ rest
          ]
    ]
