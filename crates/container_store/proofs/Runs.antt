-- What has room comes up, one container after the other.
use Rattle.std.proofs.Common.{◌≡◌, ℕ, ◌<◌, ◌≤◌, Bool, true, false, cond, ◌&&◌, T, ltb, eqb, List, [], ◌∷◌, map, Option, Some, None, Result, Ok, Err, refl, sym, ap, ◌∙◌, arith}
use Rattle.std.specs.FinMap.Entries.{below_all}
use Rattle.std.specs.List.{All, find}
use Rattle.std.specs.Option.{unwrap_or}
use Rattle.std.specs.Ordering.{nat_cmp}
use Rattle.std.specs.Result.{MatchResult}
use Rattle.std.proofs.lemmas.Bool.{lt-ltb, ltb-true, eq-eqb, and_parts}
use Rattle.std.proofs.lemmas.List.Elements.{All-head, All-tail}
use Rattle.cell_records.specs.declared.container.Container.{Container}
use Rattle.cell_records.specs.declared.container_state.ContainerState.TheVariants.{Running}
use Rattle.cell_records.specs.declared.job_name.JobName.{JobName}
use Rattle.diego_names.specs.declared.instance.Instance.{Instance}
use Rattle.lrp_records.specs.States.{is_same_instance}
use Rattle.row_tables.specs.Table.{keyed, IsRising}
use Rattle.row_tables.proofs.Public.{below_rest, IsRising-tail}
use Rattle.container_store.specs.Changes.{in_state, is_reserved, if_held, running, running_each, run_if_named, with_state}
use Rattle.container_store.specs.Jobs.{is_job_in}
use Rattle.container_store.specs.Lookups.{is_later}
use Rattle.container_store.specs.Store.{StoreView, IsStore, IsGiven, find_container, number_of}
use Rattle.container_store.specs.declared.refusal.StoreRefusal.{StoreRefusal}
use Rattle.container_store.specs.declared.refusal.StoreRefusal.TheVariants.{WrongState}
use Rattle.container_store.proofs.Finding.{below_first, below_others, below_found}
use Rattle.container_store.proofs.Numbered.{other_number}

itself : (i : Instance) → is_same_instance i i ≡ true
itself i = ap (λ b. b && eqb i.number i.number) (eq-eqb i.epoch i.epoch refl) ∙ eq-eqb i.number i.number refl

not_below : (x y : ℕ) → y ≤ x → ltb x y ≡ false
not_below x y l = grind (arith, l)

-- the container of an instance is the one that was found
find-again : (p : Container → Bool) (cs : List Container) (c : Container) → IsRising nat_cmp number_of cs
    → find p cs ≡ Some c → find_container c.instance cs ≡ Some c
find-again p [] c r f = absurd (cc)
find-again p (x ∷ xs) c r f =
    elim (p x) as (λ t. cond t (Some x) (find p xs) ≡ Some c → find_container c.instance (x ∷ xs) ≡ Some c) [
      | true ↦ λ k.
          let one : x ≡ c = ap (λ o. unwrap_or o c) k in
          ap (λ t. cond t (Some x) (find_container c.instance xs))
          (ap (λ (y : Container). is_same_instance c.instance y.instance) one ∙ itself c.instance) ∙ k
      | false ↦ λ k.
          let low = below_found p (number_of x) xs c (below_rest nat_cmp number_of x xs r) k in
          ap (λ t. cond t (Some x) (find_container c.instance xs))
          (other_number c.instance x (λ e. omega (arith, e, low)))
          ∙ find-again p xs c (IsRising-tail nat_cmp number_of x xs r) k
    ] f

module _ (named : Option JobName) where
  -- those with a greater number have yet to come up
  abbrev pub run_later : ℕ → Container → Container
  run_later after c = cond (ltb after (number_of c)) (run_if_named named c) c

  not_later : (after : ℕ) (c : Container) → is_later named after c ≡ false → run_later after c ≡ c
  not_later after c e =
      elim (ltb after (number_of c)) as (λ t. (t && is_job_in named c.job) ≡ false
      → cond t (run_if_named named c) c ≡ c) [
        | true ↦ λ k. ap (λ t. cond (is_reserved c.state && t) (in_state c Running) c) k ∙ never (is_reserved c.state)
        | false ↦ λ k. refl
      ] e
    where
      never : (b : Bool) → cond (b && false) (in_state c Running) c ≡ c
      never true = refl
      never false = refl

  done : (after : ℕ) (c : Container) → number_of c ≤ after → run_later after c ≡ c
  done after c le = ap (λ t. cond t (run_if_named named c) c) (not_below after (number_of c) le)

  map-begin : (epoch last : ℕ) (cs : List Container) → All (IsGiven epoch last) cs
      → map (run_later 0) cs ≡ map (run_if_named named) cs
  map-begin epoch last [] g = refl
  map-begin epoch last (c ∷ cs) g =
      let given : IsGiven epoch last c = All-head (IsGiven epoch last) c cs g in
      ap (λ t. cond t (run_if_named named c) c ∷ map (run_later 0) cs)
      (lt-ltb 0 (number_of c) (let one = given.counted in omega (arith, one)))
      ∙ ap (λ ds. run_if_named named c ∷ ds) (map-begin epoch last cs (All-tail (IsGiven epoch last) c cs g))

  map-end : (after : ℕ) (cs : List Container) → find (is_later named after) cs ≡ None → map (run_later after) cs ≡ cs
  map-end after [] f = refl
  map-end after (c ∷ cs) f =
      elim (is_later named after c) as (λ t. is_later named after c ≡ t
      → cond t (Some c) (find (is_later named after) cs) ≡ None
      → run_later after c ∷ map (run_later after) cs ≡ c ∷ cs) [
        | true ↦ λ is k. absurd (cc)
        | false ↦ λ is k. ap (λ x. x ∷ map (run_later after) cs) (not_later after c is) ∙ ap (λ ds. c ∷ ds)
            (map-end after cs k)
      ] refl f

  -- of those above two numbers all have yet to come up
  map-above : (a n : ℕ) → a < n → (cs : List Container) → T (below_all nat_cmp n (keyed nat_cmp number_of cs))
      → map (run_later a) cs ≡ map (run_later n) cs
  map-above a n lt [] b = refl
  map-above a n lt (c ∷ cs) b =
      let low : n < number_of c = below_first n c cs b in
      ap (λ t. cond t (run_if_named named c) c ∷ map (run_later a) cs)
      (lt-ltb a (number_of c) (omega (arith, lt, low)) ∙ sym (lt-ltb n (number_of c) low))
      ∙ ap (λ ds. run_later n c ∷ ds) (map-above a n lt cs (below_others n c cs b))

  -- no other container changes with the one of the instance
  others-stay : (i : Instance) (n : ℕ) → i.number ≡ n → (cs : List Container)
      → T (below_all nat_cmp n (keyed nat_cmp number_of cs))
      → map (λ c. cond (is_same_instance i c.instance) (in_state c Running) c) cs ≡ cs
  others-stay i n is [] b = refl
  others-stay i n is (c ∷ cs) b =
      let low : n < number_of c = below_first n c cs b in
      ap (λ t. cond t (in_state c Running) c ∷ map (λ d. cond (is_same_instance i d.instance) (in_state d Running) d)
      cs) (other_number i c (λ e. omega (arith, e, is, low)))
      ∙ ap (λ ds. c ∷ ds) (others-stay i n is cs (below_others n c cs b))

  -- the next one does not come up
  step-stays : (after : ℕ) (cs : List Container) (c : Container) → IsRising nat_cmp number_of cs
      → find (is_later named after) cs ≡ Some c → is_reserved c.state ≡ false
      → map (run_later after) cs ≡ map (run_later (number_of c)) cs
  step-stays after [] c r f stays = absurd (cc)
  step-stays after (x ∷ xs) c r f stays =
      let below = below_rest nat_cmp number_of x xs r in
      elim (is_later named after x) as (λ t. is_later named after x ≡ t
      → cond t (Some x) (find (is_later named after) xs) ≡ Some c
      → run_later after x ∷ map (run_later after) xs ≡ run_later (number_of c) x ∷ map (run_later (number_of c)) xs) [
        | true ↦ λ is k.
            let one : x ≡ c = ap (λ o. unwrap_or o c) k in
            let low : after < number_of x = (later is) in
            let here : run_later after x ≡ x =
            ap (λ t. cond t (run_if_named named x) x) (lt-ltb after (number_of x) low)
            ∙ ap (λ t. cond (t && is_job_in named x.job) (in_state x Running) x)
            (ap (λ (y : Container). is_reserved y.state) one ∙ stays) in
            ap (λ y. y ∷ map (run_later after) xs) (here ∙ sym (done (number_of x) x (omega arith)))
            ∙ ap (λ ds. run_later (number_of x) x ∷ ds) (map-above after (number_of x) low xs below)
            ∙ ap (λ (y : Container). run_later (number_of y) x ∷ map (run_later (number_of y)) xs) one
        | false ↦ λ is k.
            let low = below_found (is_later named after) (number_of x) xs c below k in
            ap (λ y. y ∷ map (run_later after) xs) (not_later after x is ∙ sym
            (done (number_of c) x (omega (arith, low))))
            ∙ ap (λ ds. run_later (number_of c) x ∷ ds) (step-stays after xs c
            (IsRising-tail nat_cmp number_of x xs r) k stays)
      ] refl f
    where
      later : is_later named after x ≡ true → after < number_of x
      later e = ltb-true after (number_of x) (and_parts (ltb after (number_of x)) (is_job_in named x.job) e).0

  -- the next one comes up
  step-runs : (after : ℕ) (cs : List Container) (c : Container) → IsRising nat_cmp number_of cs
      → find (is_later named after) cs ≡ Some c → is_reserved c.state ≡ true
      → map (run_later after) cs ≡ map (run_later (number_of c))
      (map (λ x. cond (is_same_instance c.instance x.instance) (in_state x Running) x) cs)
  step-runs after [] c r f runs = absurd (cc)
  step-runs after (x ∷ xs) c r f runs =
      let below = below_rest nat_cmp number_of x xs r in
      let others : Container → List Container = λ y. map (λ d.
      cond (is_same_instance y.instance d.instance) (in_state d Running) d) xs in
      elim (is_later named after x) as (λ t. is_later named after x ≡ t
      → cond t (Some x) (find (is_later named after) xs) ≡ Some c
      → run_later after x ∷ map (run_later after) xs
      ≡ run_later (number_of c) (cond (is_same_instance c.instance x.instance) (in_state x Running) x)
      ∷ map (run_later (number_of c)) (others c)) [
        | true ↦ λ is k.
            let one : x ≡ c = ap (λ o. unwrap_or o c) k in
            let parts = and_parts (ltb after (number_of x)) (is_job_in named x.job) is in
            let low : after < number_of x = ltb-true after (number_of x) parts.0 in
            let here : run_later after x ≡ in_state x Running =
            ap (λ t. cond t (run_if_named named x) x) parts.0
            ∙ ap (λ t. cond (t && is_job_in named x.job) (in_state x Running) x)
            (ap (λ (y : Container). is_reserved y.state) one ∙ runs)
            ∙ ap (λ t. cond t (in_state x Running) x) parts.1 in
            let there : run_later (number_of x) (cond (is_same_instance x.instance x.instance) (in_state x Running) x)
            ≡ in_state x Running =
            ap (λ t. run_later (number_of x) (cond t (in_state x Running) x)) (itself x.instance) ∙ done (number_of x)
            (in_state x Running) (omega arith) in
            ap (λ y. y ∷ map (run_later after) xs) (here ∙ sym there)
            ∙ ap (λ ds. run_later (number_of x) (cond (is_same_instance x.instance x.instance) (in_state x Running) x)
            ∷ ds)
            (map-above after (number_of x) low xs below ∙ ap (map (run_later (number_of x)))
            (sym (others-stay x.instance (number_of x) refl xs below)))
            ∙ ap (λ (y : Container). run_later (number_of y) (cond (is_same_instance y.instance x.instance)
            (in_state x Running) x) ∷ map (run_later (number_of y)) (others y)) one
        | false ↦ λ is k.
            let low = below_found (is_later named after) (number_of x) xs c below k in
            let apart : is_same_instance c.instance x.instance ≡ false =
            other_number c.instance x (λ e. omega (arith, e, low)) in
            ap (λ y. y ∷ map (run_later after) xs) (not_later after x is ∙ sym
            (done (number_of c) x (omega (arith, low))))
            ∙ ap (λ t. run_later (number_of c) (cond t (in_state x Running) x) ∷ map (run_later after) xs) (sym apart)
            ∙ ap (λ ds. run_later (number_of c) (cond (is_same_instance c.instance x.instance) (in_state x Running) x)
            ∷ ds)
            (step-runs after xs c (IsRising-tail nat_cmp number_of x xs r) k runs)
      ] refl f

  -- the store in which those after a number have come up
  abbrev pub running_later : ℕ → StoreView → StoreView
  running_later after s = record s { containers = map (run_later after) s.containers }

  pub all-begin : (s : StoreView) → IsStore s → running_later 0 s ≡ running_each s named
  all-begin s h = ap (λ cs. record s { containers = cs }) (map-begin s.epoch s.last s.containers h.given)

  pub all-end : (after : ℕ) (s : StoreView) → find (is_later named after) s.containers ≡ None
      → running_later after s ≡ s
  all-end after s f = ap (λ cs. record s { containers = cs }) (map-end after s.containers f)

  -- one more has come up, or stays as it was
  pub all-step : (after : ℕ) (s t : StoreView) (c : Container) (r : Result (Unit {0}) StoreRefusal) → IsStore s
      → find (is_later named after) s.containers ≡ Some c
      → MatchResult r (λ _. running s c.instance ≡ Ok t) (λ why. (running s c.instance ≡ Err why) × (t ≡ s))
      → running_later after s ≡ running_later (number_of c) t
  all-step after s t c r h f ran =
      elim (is_reserved c.state) as (λ b. is_reserved c.state ≡ b
      → running_later after s ≡ running_later (number_of c) t) [
        | true ↦ λ is. ap (λ cs. record s { containers = cs }) (step-runs after s.containers c h.rising f is) ∙ ap
            (running_later (number_of c)) (went is r ran)
        | false ↦ λ is. ap (λ cs. record s { containers = cs }) (step-stays after s.containers c h.rising f is) ∙ ap
            (running_later (number_of c)) (stayed is r ran)
      ] refl
    where
      asked : running s c.instance ≡ cond (is_reserved c.state) (Ok (with_state s c.instance Running)) (Err WrongState)
      asked = ap (λ o. if_held o (λ x. cond (is_reserved x.state) (Ok (with_state s c.instance Running))
          (Err WrongState))) (find-again (is_later named after) s.containers c h.rising f)

      ok_or : StoreView → Result StoreView StoreRefusal → StoreView
      ok_or d (Ok x) = x
      ok_or d (Err why) = d

      went : is_reserved c.state ≡ true → (x : Result (Unit {0}) StoreRefusal)
          → MatchResult x (λ _. running s c.instance ≡ Ok t) (λ why. (running s c.instance ≡ Err why) × (t ≡ s))
          → with_state s c.instance Running ≡ t
      went is (Ok u) k = ap (ok_or s) (sym (asked ∙ ap (λ b.
          cond b (Ok (with_state s c.instance Running)) (Err WrongState)) is) ∙ k)
      went is (Err why) k =
          let other = sym (asked ∙ ap (λ b. cond b (Ok (with_state s c.instance Running)) (Err WrongState)) is) ∙ k.0 in
          absurd (cc)

      stayed : is_reserved c.state ≡ false → (x : Result (Unit {0}) StoreRefusal)
          → MatchResult x (λ _. running s c.instance ≡ Ok t) (λ why. (running s c.instance ≡ Err why) × (t ≡ s)) → s ≡ t
      stayed is (Ok u) k =
          let other = sym (asked ∙ ap (λ b. cond b (Ok (with_state s c.instance Running)) (Err WrongState)) is) ∙ k in
          absurd (cc)
      stayed is (Err why) k = sym k.1
