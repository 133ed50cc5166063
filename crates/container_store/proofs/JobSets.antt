-- The set of the entries of all containers, as one comes, goes or changes its state.
use Rattle.std.proofs.Common.{◌≡◌, ℕ, Bool, true, false, cond, Option, Some, None, refl, sym, ap, subst, ◌∙◌}
use Rattle.std.specs.BTreeMap.{BTreeMap, get, is_at}
use Rattle.std.specs.BTreeSet.{BTreeSet, contains}
use Rattle.std.specs.Cmp.{eq_by_cmp_equiv}
use Rattle.std.specs.Ordering.{nat_cmp}
use Rattle.cell_records.specs.declared.container.Container.{Container}
use Rattle.container_store.specs.Entries.{entry_order, entry_of}
use Rattle.container_store.specs.Inside.{AreJobsOf, is_entry_of}
use Rattle.container_store.specs.Store.{number_of}
use Rattle.container_store.specs.declared.entries.JobEntry.{JobEntry}
use Rattle.container_store.proofs.Numbered.{here_number, at_itself}
use Rattle.container_store.proofs.Orders.{IsKeyOrder-entry_order, entry_from_test}

flip : (a b : JobEntry) → is_at (entry_order a) b ≡ is_at (entry_order b) a
flip a b = (eq_by_cmp_equiv IsKeyOrder-entry_order.total).symm a b

-- one entry has one number
same_number : (k q : JobEntry) → is_at (entry_order k) q ≡ true → is_at (nat_cmp k.number) q.number ≡ true
same_number k q e = subst (λ (n : ℕ). is_at (nat_cmp k.number) n ≡ true)
    (ap (λ (x : JobEntry). x.number) (entry_from_test k q e)) (at_itself k.number)

-- two tests, of which the first implies the second
by_tests : (P : Bool → Bool → Type 0) (a n : Bool) → (a ≡ true → n ≡ true) → (n ≡ true → a ≡ true → P true true)
    → (n ≡ true → a ≡ false → P false true) → (n ≡ false → P false false) → P a n
by_tests P true true h both one none = both refl refl
by_tests P true false h both one none = let e = h refl in absurd (cc)
by_tests P false true h both one none = one refl refl
by_tests P false false h both one none = none refl

-- an entry that was new comes and goes again
pub undone : (jobs mid left : BTreeSet JobEntry) (k : JobEntry) → contains entry_order jobs k ≡ false
    → ((q : JobEntry) → contains entry_order mid q ≡ cond (is_at (entry_order k) q) true (contains entry_order jobs q))
    → ((q : JobEntry) → contains entry_order left q ≡ cond (is_at (entry_order k) q) false (contains entry_order mid q))
    → (q : JobEntry) → contains entry_order left q ≡ contains entry_order jobs q
undone jobs mid left k new came went q =
    went q ∙ ap (cond (is_at (entry_order k) q) false) (came q)
    ∙ elim (is_at (entry_order k) q) as (λ t. is_at (entry_order k) q ≡ t
    → cond t false (cond t true (contains entry_order jobs q)) ≡ contains entry_order jobs q) [
      | true ↦ λ is. sym (ap (contains entry_order jobs) (sym (entry_from_test k q is)) ∙ new)
      | false ↦ λ is. refl
    ] refl

module _ (jobs jobs' : BTreeSet JobEntry) (m m' : BTreeMap ℕ Container) (c : Container) (h : AreJobsOf jobs m) where
  -- the entry of the container
  abbrev key : JobEntry
  key = entry_of c

  -- what stands at a number that is the container's
  at_it : (was : Option Container) → get nat_cmp m (number_of c) ≡ was → (q : JobEntry)
      → is_at (nat_cmp (number_of c)) q.number ≡ true → contains entry_order jobs q ≡ is_entry_of q was
  at_it was is q e = h q ∙ ap (is_entry_of q) (ap (get nat_cmp m) (sym (here_number (number_of c) q.number e)) ∙ is)

  -- a container comes, and its entry
  pub jobs-pushed : get nat_cmp m (number_of c) ≡ None
      → ((n : ℕ) → get nat_cmp m' n ≡ cond (is_at (nat_cmp (number_of c)) n) (Some c) (get nat_cmp m n))
      → ((q : JobEntry) → contains entry_order jobs' q ≡ cond (is_at (entry_order key) q) true
      (contains entry_order jobs q))
      → AreJobsOf jobs' m'
  jobs-pushed new found added q =
      added q
      ∙ by_tests (λ a n. cond a true (contains entry_order jobs q)
      ≡ is_entry_of q (cond n (Some c) (get nat_cmp m q.number)))
      (is_at (entry_order key) q) (is_at (nat_cmp (number_of c)) q.number) (same_number key q)
      (λ n a. sym (flip q key ∙ a))
      (λ n a. at_it None new q n ∙ sym (flip q key ∙ a))
      (λ n. h q)
      ∙ ap (is_entry_of q) (sym (found q.number))

  -- a container goes, and its entry
  pub jobs-removed : get nat_cmp m (number_of c) ≡ Some c
      → ((n : ℕ) → get nat_cmp m' n ≡ cond (is_at (nat_cmp (number_of c)) n) None (get nat_cmp m n))
      → ((q : JobEntry) → contains entry_order jobs' q ≡ cond (is_at (entry_order key) q) false
      (contains entry_order jobs q))
      → AreJobsOf jobs' m'
  jobs-removed there found left q =
      left q
      ∙ by_tests (λ a n. cond a false (contains entry_order jobs q)
      ≡ is_entry_of q (cond n None (get nat_cmp m q.number)))
      (is_at (entry_order key) q) (is_at (nat_cmp (number_of c)) q.number) (same_number key q)
      (λ n a. refl)
      (λ n a. at_it (Some c) there q n ∙ flip q key ∙ a)
      (λ n. h q)
      ∙ ap (is_entry_of q) (sym (found q.number))

  -- a container changes, but not its job or its number
  pub jobs-turned : (d : Container) → entry_of d ≡ key → get nat_cmp m (number_of c) ≡ Some c
      → ((n : ℕ) → get nat_cmp m' n ≡ cond (is_at (nat_cmp (number_of c)) n) (Some d) (get nat_cmp m n))
      → AreJobsOf jobs m'
  jobs-turned d same there found q =
      elim (is_at (nat_cmp (number_of c)) q.number) as (λ n. is_at (nat_cmp (number_of c)) q.number ≡ n
      → contains entry_order jobs q ≡ is_entry_of q (cond n (Some d) (get nat_cmp m q.number))) [
        | true ↦ λ n. at_it (Some c) there q n ∙ ap (λ k. is_at (entry_order q) k) (sym same)
        | false ↦ λ n. h q
      ] refl
      ∙ ap (is_entry_of q) (sym (found q.number))
