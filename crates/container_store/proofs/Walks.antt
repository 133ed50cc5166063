-- One container after the other, in order of number.
use Rattle.std.proofs.Common.{◌≡◌, ℕ, ◌<◌, ◌≤◌, Bool, true, false, cond, ◌&&◌, T, ltb, List, [], ◌∷◌, ◌++◌, filter, Option, Some, None, refl, sym, ap, subst, ◌∙◌, arith}
use Rattle.std.specs.FinMap.Entries.{below_all}
use Rattle.std.specs.List.{All, find}
use Rattle.std.specs.Option.{unwrap_or}
use Rattle.std.specs.Ordering.{nat_cmp}
use Rattle.std.proofs.lemmas.Bool.{ltb-true, lt-ltb, and_parts}
use Rattle.std.proofs.lemmas.List.Elements.{All-head, All-tail}
use Rattle.cell_records.specs.declared.container.Container.{Container}
use Rattle.cell_records.specs.declared.job_name.JobName.{JobName}
use Rattle.row_tables.specs.Table.{keyed, IsRising}
use Rattle.row_tables.proofs.Public.{below_rest, IsRising-tail}
use Rattle.container_store.specs.Jobs.{is_job_in}
use Rattle.container_store.specs.Lookups.{is_later}
use Rattle.container_store.specs.Store.{IsGiven, number_of}
use Rattle.container_store.proofs.Finding.{below_first, below_others, below_found, found_passes}

-- a search among those that pass another test
pub find-filter : (u s : Container → Bool) (cs : List Container) → find (λ c. u c && s c) cs ≡ find u (filter s cs)
find-filter u s [] = refl
find-filter u s (c ∷ cs) =
    elim (s c) as (λ t. cond (u c && t) (Some c) (find (λ d. u d && s d) cs)
    ≡ find u (cond t (c ∷ filter s cs) (filter s cs))) [
      | true ↦
          elim (u c) as (λ t. cond (t && true) (Some c) (find (λ d. u d && s d) cs)
          ≡ cond t (Some c) (find u (filter s cs))) [
            | true ↦ refl
            | false ↦ find-filter u s cs
          ]
      | false ↦
          ap (λ t. cond t (Some c) (find (λ d. u d && s d) cs)) (never (u c)) ∙ find-filter u s cs
    ]
  where
    never : (b : Bool) → (b && false) ≡ false
    never true = refl
    never false = refl

pub filter-none : (p : Container → Bool) (cs : List Container) → find p cs ≡ None → filter p cs ≡ []
filter-none p [] f = refl
filter-none p (c ∷ cs) f =
    elim (p c) as (λ t. cond t (Some c) (find p cs) ≡ None → cond t (c ∷ filter p cs) (filter p cs) ≡ []) [
      | true ↦ λ k. absurd (cc)
      | false ↦ λ k. filter-none p cs k
    ] f

module _ (named : Option JobName) where
  -- at 0 the walk begins: no container has that number
  at_begin : (epoch last : ℕ) (c : Container) → IsGiven epoch last c → is_later named 0 c ≡ is_job_in named c.job
  at_begin epoch last c g = ap (λ b. b && is_job_in named c.job)
      (lt-ltb 0 (number_of c) (let one = g.counted in omega (arith, one)))

  pub find-begin : (epoch last : ℕ) (cs : List Container) → All (IsGiven epoch last) cs
      → find (is_later named 0) cs ≡ find (λ c. is_job_in named c.job) cs
  find-begin epoch last [] g = refl
  find-begin epoch last (c ∷ cs) g =
      ap (λ t. cond t (Some c) (find (is_later named 0) cs))
      (at_begin epoch last c (All-head (IsGiven epoch last) c cs g))
      ∙ ap (cond (is_job_in named c.job) (Some c)) (find-begin epoch last cs (All-tail (IsGiven epoch last) c cs g))

  pub filter-begin : (epoch last : ℕ) (cs : List Container) → All (IsGiven epoch last) cs
      → filter (is_later named 0) cs ≡ filter (λ c. is_job_in named c.job) cs
  filter-begin epoch last [] g = refl
  filter-begin epoch last (c ∷ cs) g =
      ap (λ t. cond t (c ∷ filter (is_later named 0) cs) (filter (is_later named 0) cs))
      (at_begin epoch last c (All-head (IsGiven epoch last) c cs g))
      ∙ ap (λ ds. cond (is_job_in named c.job) (c ∷ ds) ds)
      (filter-begin epoch last cs (All-tail (IsGiven epoch last) c cs g))

  later_than : (after : ℕ) (c : Container) → is_later named after c ≡ true → after < number_of c
  later_than after c e = ltb-true after (number_of c) (and_parts (ltb after (number_of c)) (is_job_in named c.job) e).0

  not_later : (n : ℕ) (c : Container) → number_of c ≤ n → is_later named n c ≡ false
  not_later n c le = ap (λ b. b && is_job_in named c.job) (not_below n (number_of c) le)
    where
      not_below : (x y : ℕ) → y ≤ x → ltb x y ≡ false
      not_below x y l = grind (arith, l)

  -- of those above two numbers both tests are one
  filter_above : (a n : ℕ) → a < n → (cs : List Container) → T (below_all nat_cmp n (keyed nat_cmp number_of cs))
      → filter (is_later named a) cs ≡ filter (is_later named n) cs
  filter_above a n lt [] b = refl
  filter_above a n lt (c ∷ cs) b =
      let low : n < number_of c = below_first n c cs b in
      let one : ltb a (number_of c) ≡ ltb n (number_of c) =
      lt-ltb a (number_of c) (omega (arith, lt, low)) ∙ sym (lt-ltb n (number_of c) low) in
      ap (λ t. cond (t && is_job_in named c.job) (c ∷ filter (is_later named a) cs) (filter (is_later named a) cs)) one
      ∙ ap (λ ds. cond (is_later named n c) (c ∷ ds) ds) (filter_above a n lt cs (below_others n c cs b))

  -- the next one, and those after it
  pub filter-step : (after : ℕ) (cs : List Container) (c : Container) → IsRising nat_cmp number_of cs
      → find (is_later named after) cs ≡ Some c
      → filter (is_later named after) cs ≡ c ∷ filter (is_later named (number_of c)) cs
  filter-step after [] c r f = absurd (cc)
  filter-step after (x ∷ xs) c r f =
      let below = below_rest nat_cmp number_of x xs r in
      elim (is_later named after x) as (λ t. is_later named after x ≡ t
      → cond t (Some x) (find (is_later named after) xs) ≡ Some c
      → cond t (x ∷ filter (is_later named after) xs) (filter (is_later named after) xs) ≡ c
      ∷ filter (is_later named (number_of c)) (x ∷ xs)) [
        | true ↦ λ is k.
            let one : x ≡ c = ap (λ o. unwrap_or o c) k in
            let low : after < number_of x = later_than after x is in
            ap (λ ds. x ∷ ds) (filter_above after (number_of x) low xs below)
            ∙ ap (λ t. x ∷ cond t (x ∷ filter (is_later named (number_of x)) xs)
            (filter (is_later named (number_of x)) xs)) (sym (not_later (number_of x) x (omega arith)))
            ∙ ap (λ (y : Container). y ∷ filter (is_later named (number_of y)) (x ∷ xs)) one
        | false ↦ λ is k.
            let low : number_of x < number_of c = below_found (is_later named after) (number_of x) xs c below k in
            filter-step after xs c (IsRising-tail nat_cmp number_of x xs r) k
            ∙ ap (λ t. c ∷ cond t (x ∷ filter (is_later named (number_of c)) xs)
            (filter (is_later named (number_of c)) xs)) (sym (not_later (number_of c) x (omega (arith, low))))
      ] refl f

  -- the number of the next one
  pub step_up : (epoch last after : ℕ) (cs : List Container) (c : Container) → All (IsGiven epoch last) cs
      → find (is_later named after) cs ≡ Some c → (after < number_of c) × (number_of c ≤ last)
  step_up epoch last after cs c g f = (later_than after c (found_passes (is_later named after) cs c f), known cs g f)
    where
      known : (ds : List Container) → All (IsGiven epoch last) ds → find (is_later named after) ds ≡ Some c
          → number_of c ≤ last
      known [] h k = absurd (cc)
      known (x ∷ xs) h k =
          elim (is_later named after x) as (λ t. cond t (Some x) (find (is_later named after) xs) ≡ Some c
          → number_of c ≤ last) [
            | true ↦ λ m.
                let given : IsGiven epoch last x = All-head (IsGiven epoch last) x xs h in
                let one : x ≡ c = ap (λ o. unwrap_or o c) m in
                subst (λ (y : Container). number_of y ≤ last) one given.known
            | false ↦ λ m. known xs (All-tail (IsGiven epoch last) x xs h) m
          ] k

-- one that is added goes behind the list and before what is left
pub add_behind : (xs : List Container) (x : Container) (rest : List Container)
    → xs ++ (x ∷ rest) ≡ (xs ++ x ∷ []) ++ rest
add_behind [] x rest = refl
add_behind (y ∷ xs) x rest = ap (λ zs. y ∷ zs) (add_behind xs x rest)
