-- What a store finds: the container of an instance, and the next one of a job or of all.
use Rattle.std.proofs.Common.{◌≡◌, ◌≢◌, ℕ, ◌<◌, ◌≤◌, true, false, ◌&&◌, cond, eqb, ltb, List, [], ◌∷◌, Some, None, refl, sym, ap, subst, ◌∙◌}
use Rattle.std.specs.BTreeMap.{get}
use Rattle.std.specs.BTreeMap.Range.{IsRangeOf, IsEntryInRange}
use Rattle.std.specs.BTreeSet.{contains, IsKeyRangeOf, IsKeyInRange}
use Rattle.std.specs.List.{All, find, slice_get}
use Rattle.std.specs.Option.{IfSome, is_some}
use Rattle.std.specs.Map.{values_of}
use Rattle.std.specs.Ordering.{nat_cmp, is_gt}
use Rattle.std.specs.declared.cmp.Ordering.TheVariants.{Less, Equal, Greater}
use Rattle.std.specs.declared.ops.Bound.TheVariants.{Excluded, Unbounded}
use Rattle.std.proofs.lemmas.Bool.{lt-ltb, ltb-true, and_parts}
use Rattle.std.proofs.lemmas.List.Elements.{All-head}
use Rattle.std.proofs.lemmas.Map.Keys.{le_from_not_gt}
use Rattle.cell_records.specs.declared.container.Container.{Container}
use Rattle.cell_records.specs.declared.job_name.JobName.{JobName}
use Rattle.diego_names.specs.declared.instance.Instance.{Instance}
use Rattle.container_store.specs.Entries.{entry_order, entry_of, job_entry, job_key}
use Rattle.container_store.specs.Inside.{IsInside, store_view_of, is_entry_of}
use Rattle.container_store.specs.Jobs.{is_same_job}
use Rattle.container_store.specs.Lookups.{is_later}
use Rattle.container_store.specs.Store.{StoreView, find_container, number_of}
use Rattle.container_store.specs.declared.entries.JobEntry.{JobEntry}
use Rattle.container_store.specs.declared.store.Store.TheInside.{Inside}
use Rattle.container_store.proofs.Finding.{find-none, find-least}
use Rattle.container_store.proofs.Numbered.{find_by_number, find_elsewhere, found_number, lt_from_less}
use Rattle.container_store.proofs.Orders.{between, by_number, entry_from_test, test_from_entry, same_job, same_from_key}

less_from_lt : (a b : ℕ) → a < b → nat_cmp a b ≡ Less
less_from_lt a b lt = ap (λ t. cond t Less (cond (eqb a b) Equal Greater)) (lt-ltb a b lt)

module _ (s : Inside) (h : IsInside s) (v : StoreView) (view_is : store_view_of s ≡ v) where
  same_list : values_of s.containers.entries ≡ v.containers
  same_list = ap (λ (w : StoreView). w.containers) view_is

  -- the container of an instance is the one of its number, where it has the store's epoch
  pub find-held : (i : Instance) → i.epoch ≡ s.epoch → get nat_cmp s.containers i.number ≡ find_container i v.containers
  find-held i same =
      sym (find_by_number i s.epoch s.last same s.containers.entries h.numbered h.store.given) ∙ ap
      (find_container i) same_list

  pub find-other : (i : Instance) → i.epoch ≢ s.epoch → None ≡ find_container i v.containers
  find-other i other =
      sym (find_elsewhere i s.epoch s.last other (values_of s.containers.entries) h.store.given) ∙ ap
      (find_container i) same_list

  -- the next container of all
  module _ (after : ℕ) (r : List (ℕ × Container)) (range : IsRangeOf nat_cmp
      (Excluded after) Unbounded s.containers r) where
    later_all : (c : Container) → is_later None after c ≡ true → nat_cmp after (number_of c) ≡ Less
    later_all c e = less_from_lt after (number_of c) (ltb-true after (number_of c)
        (and_parts (ltb after (number_of c)) true e).0)

    pub next-none : r ≡ [] → None ≡ find (is_later None after) v.containers
    next-none is =
        find-none (is_later None after) s.containers.entries h.numbered h.store.rising
        (λ c held later. let gone = range.5 is (number_of c) (later_all c later, tt) in absurd (cc))
        ∙ ap (find (is_later None after)) same_list

    pub next-some : (e : ℕ × Container) (t : List (ℕ × Container)) → r ≡ e ∷ t
        → Some e.1 ≡ find (is_later None after) v.containers
    next-some e t is =
        let inside : IsEntryInRange nat_cmp (Excluded after) Unbounded s.containers e =
        All-head (IsEntryInRange nat_cmp (Excluded after) Unbounded s.containers) e t
        (subst (All (IsEntryInRange nat_cmp (Excluded after) Unbounded s.containers)) is range.0) in
        let number : number_of e.1 ≡ e.0 = found_number e.0 s.containers.entries e.1 h.numbered inside.1 in
        let low : after < number_of e.1 = subst (λ n. after < n) (sym number) (lt_from_less after e.0 inside.0.0) in
        let least : (d : Container) → get nat_cmp s.containers (number_of d) ≡ Some d → is_later None after d ≡ true
        → e.0 ≤ number_of d =
        λ d held later.
        le_from_not_gt e.0 (number_of d)
        (subst (λ (xs : List (ℕ × Container)). IfSome (slice_get xs 0) (λ x. is_gt (nat_cmp x.0 (number_of d)) ≡ false))
        is
        (range.2 (number_of d) (later_all d later, tt) (ap is_some held))) in
        find-least (is_later None after) s.containers.entries h.numbered h.store.rising e.0 e.1 inside.1
        (ap (λ b. b && true) (lt-ltb after (number_of e.1) low)) least
        ∙ ap (find (is_later None after)) same_list

  -- the next container of a job
  module _ (job : JobName) (after : ℕ) (r : List JobEntry)
      (range : IsKeyRangeOf entry_order (Excluded (job_entry job after)) Unbounded s.jobs r) where
    abbrev from : JobEntry
    from = job_entry job after

    -- what a container of the job with a greater number is in the set
    of_job : (c : Container) → is_later (Some job) after c ≡ true → job_key job ≡ job_key c.job
    of_job c e = ap job_key (same_job job c.job (and_parts (ltb after (number_of c)) (is_same_job job c.job) e).1)

    later_of : (c : Container) → is_later (Some job) after c ≡ true → entry_order from (entry_of c) ≡ Less
    later_of c e =
        by_number from (entry_of c) (of_job c e)
        ∙ less_from_lt after (number_of c) (ltb-true after (number_of c)
        (and_parts (ltb after (number_of c)) (is_same_job job c.job) e).0)

    there : (c : Container) → get nat_cmp s.containers (number_of c) ≡ Some c
        → contains entry_order s.jobs (entry_of c) ≡ true
    there c held = h.jobs (entry_of c) ∙ ap (is_entry_of (entry_of c)) held ∙ test_from_entry (entry_of c)
        (entry_of c) refl

    pub next_of-none : r ≡ [] → None ≡ find (is_later (Some job) after) v.containers
    next_of-none is =
        find-none (is_later (Some job) after) s.containers.entries h.numbered h.store.rising
        (λ c held later.
        let gone = range.5 is (entry_of c) (later_of c later, tt) in
        let here = there c held in
        absurd (cc))
        ∙ ap (find (is_later (Some job) after)) same_list

    module _ (k : JobEntry) (t : List JobEntry) (is : r ≡ k ∷ t) where
      inside : IsKeyInRange entry_order (Excluded from) Unbounded s.jobs k
      inside = All-head (IsKeyInRange entry_order (Excluded from) Unbounded s.jobs) k t
          (subst (All (IsKeyInRange entry_order (Excluded from) Unbounded s.jobs)) is range.0)

      -- no container of the job that comes later stands before it
      not_before : (c : Container) → get nat_cmp s.containers (number_of c) ≡ Some c
          → is_later (Some job) after c ≡ true → is_gt (entry_order k (entry_of c)) ≡ false
      not_before c held later =
          subst (λ (xs : List JobEntry). IfSome (slice_get xs 0) (λ x. is_gt (entry_order x (entry_of c)) ≡ false)) is
          (range.2 (entry_of c) (later_of c later, tt) (there c held))

      -- its container is there
      pub next_of-there : get nat_cmp s.containers k.number ≡ None → ⊥
      next_of-there gone = let e = sym (h.jobs k ∙ ap (is_entry_of k) gone) ∙ inside.1 in cc

      module _ (c : Container) (held : get nat_cmp s.containers k.number ≡ Some c) where
        entry_is : k ≡ entry_of c
        entry_is = entry_from_test k (entry_of c) (sym (h.jobs k ∙ ap (is_entry_of k) held) ∙ inside.1)

        pub next_of-some : is_same_job job c.job ≡ true → Some c ≡ find (is_later (Some job) after) v.containers
        next_of-some same =
            let key : job_key job ≡ job_key c.job = ap job_key (same_job job c.job same) in
            let number : k.number ≡ number_of c = ap (λ (x : JobEntry). x.number) entry_is in
            let less : nat_cmp after (number_of c) ≡ Less =
            sym (by_number from (entry_of c) key) ∙ ap (entry_order from) (sym entry_is) ∙ inside.0.0 in
            let later : is_later (Some job) after c ≡ true =
            ap (λ b. b && is_same_job job c.job) (lt-ltb after (number_of c) (lt_from_less after (number_of c) less)) ∙
            same in
            let least : (d : Container) → get nat_cmp s.containers (number_of d) ≡ Some d
            → is_later (Some job) after d ≡ true → k.number ≤ number_of d =
            λ d there_d later_d.
            let one : k.job ≡ (entry_of d).job = ap (λ (x : JobEntry). x.job) entry_is ∙ sym key ∙ of_job d later_d in
            le_from_not_gt k.number (number_of d) (ap is_gt (sym (by_number k (entry_of d) one)) ∙ not_before d there_d
            later_d) in
            find-least (is_later (Some job) after) s.containers.entries h.numbered h.store.rising k.number c held later
            least
            ∙ ap (find (is_later (Some job) after)) same_list

        pub next_of-other : is_same_job job c.job ≡ false → None ≡ find (is_later (Some job) after) v.containers
        next_of-other other =
            find-none (is_later (Some job) after) s.containers.entries h.numbered h.store.rising
            (λ d there_d later_d.
            let one : k.job ≡ job_key job = between from k (entry_of d) inside.0.0 (not_before d there_d later_d)
            (of_job d later_d) in
            let same = same_from_key job c.job (sym one ∙ ap (λ (x : JobEntry). x.job) entry_is) in
            absurd (cc))
            ∙ ap (find (is_later (Some job) after)) same_list
