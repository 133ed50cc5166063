-- The containers in order of number, by number.
use Rattle.std.proofs.Common.{◌≡◌, ◌≢◌, ℕ, ◌<◌, Bool, true, false, cond, ◌&&◌, T, not, eqb, ltb, List, [], ◌∷◌, ◌++◌, map, filter, Some, None, refl, sym, ap, ◌∙◌, arith}
use Rattle.std.specs.BTreeMap.{is_at, insert_entry}
use Rattle.std.specs.FinMap.Entries.{below_all}
use Rattle.std.specs.List.{All, find}
use Rattle.std.specs.Map.{lookup, remove_entry, set_value, values_of}
use Rattle.std.specs.Option.{unwrap_or}
use Rattle.std.specs.Ordering.{nat_cmp, is_eq, is_lt, match_ordering}
use Rattle.std.specs.declared.cmp.Ordering.TheVariants.{Less, Equal, Greater}
use Rattle.std.proofs.lemmas.Bool.{ltb-true, ne_eqb, eq-eqb, eqb-true, and_parts}
use Rattle.std.proofs.lemmas.List.Elements.{All-head, All-tail}
use Rattle.cell_records.specs.declared.container.Container.{Container}
use Rattle.cell_records.specs.declared.container_state.ContainerState.{ContainerState}
use Rattle.diego_names.specs.declared.instance.Instance.{Instance}
use Rattle.lrp_records.specs.States.{is_same_instance}
use Rattle.row_tables.specs.Table.{keyed, IsRising}
use Rattle.row_tables.proofs.Public.{less_from_test, first_of_both, second_of_both, below_rest, IsRising-tail}
use Rattle.container_store.specs.Changes.{in_state}
use Rattle.container_store.specs.Inside.{AreNumbered}
use Rattle.container_store.specs.Store.{IsGiven, number_of}

abbrev pub Entries : Type 0
Entries = List (ℕ × Container)

and_false : (b : Bool) → (b && false) ≡ false
and_false true = refl
and_false false = refl

-- the test of a key is that of the numbers
pub at_number : (a n : ℕ) → is_at (nat_cmp a) n ≡ eqb a n
at_number a n =
    elim (ltb a n) as (λ t. ltb a n ≡ t → is_eq (cond t Less (cond (eqb a n) Equal Greater)) ≡ eqb a n) [
      | true ↦ λ is. sym (ne_eqb a n (λ e. let lt = ltb-true a n is in omega (arith, e, lt)))
      | false ↦ λ is. elim (eqb a n) as (λ u. is_eq (cond u Equal Greater) ≡ u) [ true ↦ refl | false ↦ refl ]
    ] refl

pub here_number : (a n : ℕ) → is_at (nat_cmp a) n ≡ true → a ≡ n
here_number a n e = eqb-true a n (sym (at_number a n) ∙ e)

pub at_itself : (n : ℕ) → is_at (nat_cmp n) n ≡ true
at_itself n = at_number n n ∙ eq-eqb n n refl

pub not_here : (a n : ℕ) → a ≢ n → is_at (nat_cmp a) n ≡ false
not_here a n other = at_number a n ∙ ne_eqb a n other

pub lt_from_less : (a b : ℕ) → nat_cmp a b ≡ Less → a < b
lt_from_less a b e =
    elim (ltb a b) as (λ t. ltb a b ≡ t → cond t Less (cond (eqb a b) Equal Greater) ≡ Less → a < b) [
      | true ↦ λ is h. ltb-true a b is
      | false ↦ λ is h. elim (eqb a b) as (λ u. cond u Equal Greater ≡ Less → a < b)
          [ true ↦ λ k. cc | false ↦ λ k. cc ] h
    ] refl e

-- a container of a greater number than the instance's is another's
module _ (i : Instance) where
  abbrev is_it : Container → Bool
  is_it c = is_same_instance i c.instance

  pub other_number : (c : Container) → i.number ≢ number_of c → is_it c ≡ false
  other_number c other =
      ap (λ b. eqb i.epoch c.instance.epoch && b) (ne_eqb i.number c.instance.number other)
      ∙ and_false (eqb i.epoch c.instance.epoch)

  same_number : (c : Container) → is_it c ≡ true → i.number ≡ number_of c
  same_number c e =
      eqb-true i.number c.instance.number (and_parts (eqb i.epoch c.instance.epoch)
      (eqb i.number c.instance.number) e).1

  -- an instance of another epoch has no container
  pub find_elsewhere : (epoch last : ℕ) → i.epoch ≢ epoch → (cs : List Container) → All (IsGiven epoch last) cs
      → find is_it cs ≡ None
  find_elsewhere epoch last other [] g = refl
  find_elsewhere epoch last other (c ∷ cs) g =
      let given : IsGiven epoch last c = All-head (IsGiven epoch last) c cs g in
      let apart : is_it c ≡ false =
      ap (λ b. b && eqb i.number c.instance.number) (ne_eqb i.epoch c.instance.epoch (λ e. other (e ∙ given.epoch_is)))
      in
      ap (λ b. cond b (Some c) (find is_it cs)) apart
      ∙ find_elsewhere epoch last other cs (All-tail (IsGiven epoch last) c cs g)

  module _ (epoch last : ℕ) (same : i.epoch ≡ epoch) where
    -- the key tells what the instance tells
    agree : (n : ℕ) (c : Container) → n ≡ number_of c → IsGiven epoch last c → is_at (nat_cmp i.number) n ≡ is_it c
    agree n c is g =
        at_number i.number n ∙ ap (eqb i.number) is
        ∙ sym (ap (λ b. b && eqb i.number c.instance.number) (eq-eqb i.epoch c.instance.epoch (same ∙ sym g.epoch_is)))

    -- the container of an instance is the one of its number
    pub find_by_number : (es : Entries) → AreNumbered es → All (IsGiven epoch last) (values_of es)
        → find is_it (values_of es) ≡ lookup (is_at (nat_cmp i.number)) es
    find_by_number [] h g = refl
    find_by_number (e ∷ es) h g =
        ap (λ b. cond b (Some e.1) (find is_it (values_of es)))
        (sym (agree e.0 e.1 h.0 (All-head (IsGiven epoch last) e.1 (values_of es) g)))
        ∙ ap (cond (is_at (nat_cmp i.number) e.0) (Some e.1))
        (find_by_number es h.1 (All-tail (IsGiven epoch last) e.1 (values_of es) g))

    stay-filter : (n : ℕ) → i.number ≡ n → (cs : List Container) → T (below_all nat_cmp n (keyed nat_cmp number_of cs))
        → filter (λ c. not (is_it c)) cs ≡ cs
    stay-filter n is [] b = refl
    stay-filter n is (c ∷ cs) b =
        let first = first_of_both (is_lt (nat_cmp n (number_of c)))
        (below_all nat_cmp n (keyed nat_cmp number_of cs)) b in
        let rest = second_of_both (is_lt (nat_cmp n (number_of c)))
        (below_all nat_cmp n (keyed nat_cmp number_of cs)) b in
        let lt = lt_from_less n (number_of c) (less_from_test (nat_cmp n (number_of c)) first) in
        ap (λ t. cond (not t) (c ∷ filter (λ d. not (is_it d)) cs) (filter (λ d. not (is_it d)) cs))
        (other_number c (λ e. omega (arith, e, is, lt)))
        ∙ ap (λ ds. c ∷ ds) (stay-filter n is cs rest)

    -- without the entry of its number, the instance's container is gone
    pub values-removed : (es : Entries) → AreNumbered es → All (IsGiven epoch last) (values_of es)
        → IsRising nat_cmp number_of (values_of es)
        → values_of (remove_entry (is_at (nat_cmp i.number)) es) ≡ filter (λ c. not (is_it c)) (values_of es)
    values-removed [] h g r = refl
    values-removed (e ∷ es) h g r =
        let test = is_at (nat_cmp i.number) in
        let left : List Container = filter (λ c. not (is_it c)) (values_of es) in
        ap (λ t. values_of (cond t es (e ∷ remove_entry test es)))
        (agree e.0 e.1 h.0 (All-head (IsGiven epoch last) e.1 (values_of es) g))
        ∙ elim (is_it e.1) as (λ t. is_it e.1 ≡ t → values_of (cond t es (e ∷ remove_entry test es))
        ≡ cond (not t) (e.1 ∷ left) left) [
          | true ↦ λ is.
              sym (stay-filter (number_of e.1) (same_number e.1 is) (values_of es)
              (below_rest nat_cmp number_of e.1 (values_of es) r))
          | false ↦ λ is.
              ap (λ cs. e.1 ∷ cs)
              (values-removed es h.1 (All-tail (IsGiven epoch last) e.1 (values_of es) g)
              (IsRising-tail nat_cmp number_of e.1 (values_of es) r))
        ] refl

    module _ (state : ContainerState) where
      abbrev turn : Container → Container
      turn c = cond (is_it c) (in_state c state) c

      stay-map : (n : ℕ) → i.number ≡ n → (cs : List Container) → T (below_all nat_cmp n (keyed nat_cmp number_of cs))
          → map turn cs ≡ cs
      stay-map n is [] b = refl
      stay-map n is (c ∷ cs) b =
          let first = first_of_both (is_lt (nat_cmp n (number_of c)))
          (below_all nat_cmp n (keyed nat_cmp number_of cs)) b in
          let rest = second_of_both (is_lt (nat_cmp n (number_of c)))
          (below_all nat_cmp n (keyed nat_cmp number_of cs)) b in
          let lt = lt_from_less n (number_of c) (less_from_test (nat_cmp n (number_of c)) first) in
          ap (λ t. cond t (in_state c state) c ∷ map turn cs) (other_number c (λ e. omega (arith, e, is, lt)))
          ∙ ap (λ ds. c ∷ ds) (stay-map n is cs rest)

      -- with that state at its number, the instance's container has it
      pub values-turned : (es : Entries) (c : Container) → lookup (is_at (nat_cmp i.number)) es ≡ Some c
          → AreNumbered es → All (IsGiven epoch last) (values_of es)
          → IsRising nat_cmp number_of (values_of es) → values_of
          (set_value (is_at (nat_cmp i.number)) es (in_state c state)) ≡ map turn (values_of es)
      values-turned [] c f h g r = refl
      values-turned (e ∷ es) c f h g r =
          let test = is_at (nat_cmp i.number) in
          let tests : test e.0 ≡ is_it e.1 = agree e.0 e.1 h.0 (All-head (IsGiven epoch last) e.1 (values_of es) g) in
          let found : cond (is_it e.1) (Some e.1) (lookup test es) ≡ Some c =
          ap (λ t. cond t (Some e.1) (lookup test es)) (sym tests) ∙ f in
          ap (λ t. values_of (cond t ((e.0, in_state c state) ∷ es) (e ∷ set_value test es (in_state c state)))) tests
          ∙ elim (is_it e.1) as (λ t. is_it e.1 ≡ t → cond t (Some e.1) (lookup test es) ≡ Some c →
          values_of (cond t ((e.0, in_state c state) ∷ es) (e ∷ set_value test es (in_state c state)))
          ≡ cond t (in_state e.1 state) e.1 ∷ map turn (values_of es)) [
            | true ↦ λ is k.
                let one : e.1 ≡ c = ap (λ o. unwrap_or o c) k in
                ap (λ x. in_state x state ∷ values_of es) (sym one)
                ∙ ap (λ ds. in_state e.1 state ∷ ds) (sym (stay-map (number_of e.1) (same_number e.1 is) (values_of es)
                (below_rest nat_cmp number_of e.1 (values_of es) r)))
            | false ↦ λ is k.
                ap (λ cs. e.1 ∷ cs)
                (values-turned es c k h.1 (All-tail (IsGiven epoch last) e.1 (values_of es) g)
                (IsRising-tail nat_cmp number_of e.1 (values_of es) r))
          ] refl found

-- a container of a new number, greater than all others, stands behind them
pub values-pushed : (epoch last n : ℕ) (c : Container) → last < n → (es : Entries) → AreNumbered es
    → All (IsGiven epoch last) (values_of es)
    → values_of (insert_entry nat_cmp es n c) ≡ values_of es ++ c ∷ []
values-pushed epoch last n c new [] h g = refl
values-pushed epoch last n c new (e ∷ es) h g =
    let given : IsGiven epoch last e.1 = All-head (IsGiven epoch last) e.1 (values_of es) g in
    let is : e.0 ≡ number_of e.1 = h.0 in
    let low : e.0 < n = omega (arith, is, given.known, new) in
    let above : nat_cmp n e.0 ≡ Greater = greater n e.0 low in
    ap (λ o. values_of (match_ordering o ((n, c) ∷ e ∷ es) ((e.0, c) ∷ es) (e ∷ insert_entry nat_cmp es n c))) above
    ∙ ap (λ cs. e.1 ∷ cs) (values-pushed epoch last n c new es h.1 (All-tail (IsGiven epoch last) e.1 (values_of es) g))
  where
    greater : (a b : ℕ) → b < a → nat_cmp a b ≡ Greater
    greater a b lt =
        ap (λ t. cond t Less (cond (eqb a b) Equal Greater)) (not_below a b lt)
        ∙ ap (λ t. cond t Equal Greater) (ne_eqb a b (λ e. omega (arith, e, lt)))
      where
        not_below : (x y : ℕ) → y < x → ltb x y ≡ false
        not_below x y l = grind (arith, l)

-- what a look-up finds at a number has it
pub found_number : (n : ℕ) (es : Entries) (c : Container) → AreNumbered es → lookup (is_at (nat_cmp n)) es ≡ Some c
    → number_of c ≡ n
found_number n [] c h f = absurd (cc)
found_number n (e ∷ es) c h f =
    elim (is_at (nat_cmp n) e.0) as (λ t. is_at (nat_cmp n) e.0 ≡ t
    → cond t (Some e.1) (lookup (is_at (nat_cmp n)) es) ≡ Some c → number_of c ≡ n) [
      | true ↦ λ is k.
          let one : e.1 ≡ c = ap (λ o. unwrap_or o c) k in
          let key : n ≡ e.0 = here_number n e.0 is in
          let number : e.0 ≡ number_of e.1 = h.0 in
          sym (key ∙ number ∙ ap number_of one)
      | false ↦ λ is k. found_number n es c h.1 k
    ] refl f

-- the entries stay numbered
pub numbered-removed : (test : ℕ → Bool) (es : Entries) → AreNumbered es → AreNumbered (remove_entry test es)
numbered-removed test [] h = tt
numbered-removed test (e ∷ es) h =
    elim (test e.0) as (λ t. AreNumbered (cond t es (e ∷ remove_entry test es)))
    [ true ↦ h.1 | false ↦ (h.0, numbered-removed test es h.1) ]

pub numbered-turned : (n : ℕ) (w : Container) → number_of w ≡ n → (es : Entries) → AreNumbered es
    → AreNumbered (set_value (is_at (nat_cmp n)) es w)
numbered-turned n w is [] h = tt
numbered-turned n w is (e ∷ es) h =
    elim (is_at (nat_cmp n) e.0) as (λ t. is_at (nat_cmp n) e.0 ≡ t
    → AreNumbered (cond t ((e.0, w) ∷ es) (e ∷ set_value (is_at (nat_cmp n)) es w))) [
      | true ↦ λ here. (sym (here_number n e.0 here) ∙ sym is, h.1)
      | false ↦ λ other. (h.0, numbered-turned n w is es h.1)
    ] refl

pub numbered-pushed : (c : Container) (es : Entries) → AreNumbered es
    → AreNumbered (insert_entry nat_cmp es (number_of c) c)
numbered-pushed c [] h = (refl, tt)
numbered-pushed c (e ∷ es) h =
    elim (nat_cmp (number_of c) e.0) as (λ o. nat_cmp (number_of c) e.0 ≡ o
    → AreNumbered (match_ordering o ((number_of c, c) ∷ e ∷ es) ((e.0, c) ∷ es)
    (e ∷ insert_entry nat_cmp es (number_of c) c))) [
      | Less ↦ λ is. (refl, h)
      | Equal ↦ λ is. (sym (here_number (number_of c) e.0 (ap is_eq is)), h.1)
      | Greater ↦ λ is. (h.0, numbered-pushed c es h.1)
    ] refl
