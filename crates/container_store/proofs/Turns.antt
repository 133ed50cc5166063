-- What the fields mean after a change: a container has another state, goes or comes.
use Rattle.std.proofs.Common.{◌≡◌, ◌≢◌, ℕ, ◌+◌, ◌-◌, ◌≤◌, min, Bool, true, false, cond, eqb, not, List, length, Option, Some, None, Result, Ok, Err, refl, sym, ap, subst, ◌∙◌, arith, inl, inr}
use Rattle.std.specs.BTreeMap.{BTreeMap, get, is_at, insert_entry}
use Rattle.std.specs.BTreeSet.{BTreeSet, contains}
use Rattle.std.specs.List.{sum_by}
use Rattle.std.specs.Map.{values_of, lookup, remove_entry, set_value}
use Rattle.std.specs.Option.{option_map, unwrap_or, IfSome}
use Rattle.std.specs.Ordering.{nat_cmp}
use Rattle.std.specs.Prelude.{if◌then◌else◌, nat_lt}
use Rattle.std.proofs.lemmas.Bool.{cases_eq, ne_eqb}
use Rattle.std.proofs.lemmas.List.Sums.{sum_by_push}
use Rattle.std.proofs.lemmas.Map.Entries.{sum_by-remove_entry}
use Rattle.std.proofs.lemmas.Map.Views.{IfSome-lookup_from_All}
use Rattle.cell_records.specs.declared.amounts.Amounts.{Amounts}
use Rattle.cell_records.specs.declared.job_name.JobName.{JobName}
use Rattle.cell_records.specs.declared.container.Container.{Container}
use Rattle.cell_records.specs.declared.container_state.ContainerState.{ContainerState}
use Rattle.cell_records.specs.declared.container_state.ContainerState.TheVariants.{Reserved, Running, Completed}
use Rattle.diego_names.specs.declared.instance.Instance.{Instance}
use Rattle.lrp_records.specs.States.{is_same_instance}
use Rattle.container_store.specs.Changes.{in_state, with_state, without_container, if_held, is_reserved, is_uncompleted, reserved, reserving, next_container}
use Rattle.container_store.specs.Entries.{entry_order, entry_of, job_entry}
use Rattle.container_store.specs.Inside.{IsInside, AreNumbered, store_view_of, is_entry_of}
use Rattle.container_store.specs.Store.{StoreView, IsStore, IsGiven, find_container, number_of, used_memory, used_disk, free_of}
use Rattle.container_store.specs.declared.entries.JobEntry.{JobEntry}
use Rattle.container_store.specs.declared.refusal.StoreRefusal.{StoreRefusal}
use Rattle.container_store.specs.declared.refusal.StoreRefusal.TheVariants.{Unknown, NoMemoryLeft, NoDiskLeft, NoSlot}
use Rattle.container_store.specs.declared.store.Store.TheInside.{Inside}
use Rattle.container_store.proofs.Held.{find-held, find-other}
use Rattle.container_store.proofs.JobSets.{jobs-pushed, jobs-removed, jobs-turned}
use Rattle.container_store.proofs.Keeps.{IsTurn, IsStore-turn, IsStore-filter, IsStore-reserved, sum_by-map_same}
use Rattle.container_store.proofs.Numbered.{values-removed, values-turned, values-pushed, found_number, numbered-removed, numbered-turned, numbered-pushed}

-- what is asked of a container that is not there
pub ask-none : (o : Option Container) (ask : Container → Result StoreView StoreRefusal)
    → None ≡ option_map (λ (c : Container). c.state) o → if_held o ask ≡ Err Unknown
ask-none None ask e = refl
ask-none (Some c) ask e = absurd (cc)

-- what is asked of the state of one that is
pub ask-some : (o : Option Container) (state : ContainerState) (ask : ContainerState → Result StoreView StoreRefusal)
    → Some state ≡ option_map (λ (c : Container). c.state) o
    → if_held o (λ c. ask c.state) ≡ ask state
ask-some None state ask e = absurd (cc)
ask-some (Some c) state ask e = ap (λ o. ask (unwrap_or o state)) (sym e)

pub not_reserved : (s : ContainerState) → (s ≡ Reserved → ⊥) → is_reserved s ≡ false
not_reserved Reserved h = absurd (h refl)
not_reserved Running h = refl
not_reserved (Completed failed) h = refl

pub uncompleted : (s : ContainerState) → ((failed : Bool) → s ≡ Completed failed → ⊥) → is_uncompleted s ≡ true
uncompleted Reserved h = refl
uncompleted Running h = refl
uncompleted (Completed failed) h = absurd (h failed refl)

-- the container of an instance, as it is kept
pub record HeldAs (s : Inside) (i : Instance) : Type 0 where
  pub one : Container
  pub same : i.epoch ≡ s.epoch
  pub held : get nat_cmp s.containers i.number ≡ Some one

module _ (s : Inside) (h : IsInside s) (v : StoreView) (view_is : store_view_of s ≡ v) (i : Instance) where
  pub its_epoch : (c : Container) → find_container i v.containers ≡ Some c → i.epoch ≡ s.epoch
  its_epoch c e =
      elim (cases_eq i.epoch s.epoch) [
        | (inl same) ↦ same
        | (inr other) ↦ let none = find-other s h v view_is i other in absurd (cc)
      ]

  -- a container that is found is kept
  abbrev pub held_as : (c : Container) → find_container i v.containers ≡ Some c → HeldAs s i
  held_as c e = record { one = c; same = its_epoch c e; held = find-held s h v view_is i (its_epoch c e) ∙ e }

  pub held_in : (state : ContainerState) → Some state ≡ option_map (λ (c : Container). c.state)
      (find_container i v.containers) → HeldAs s i
  held_in state e = by (find_container i v.containers) refl e
    where
      by : (o : Option Container) → find_container i v.containers ≡ o
          → Some state ≡ option_map (λ (c : Container). c.state) o → HeldAs s i
      by None is k = absurd (cc)
      by (Some c) is k = held_as c is

same_if : {X : Type 0} (f : Container → X) (b : Bool) (c : Container) (state : ContainerState)
    → f (in_state c state) ≡ f c → f (cond b (in_state c state) c) ≡ f c
same_if f true c state e = e
same_if f false c state e = refl

-- a change of one container's state
abbrev turn : Instance → ContainerState → Container → Container
turn i state c = if is_same_instance i c.instance then in_state c state else c

turn-IsTurn : (i : Instance) (state : ContainerState) → IsTurn (turn i state)
turn-IsTurn i state = record {
  instance = λ c. same_if (λ x. x.instance) (is_same_instance i c.instance) c state refl;
  memory = λ c. same_if (λ x. x.memory) (is_same_instance i c.instance) c state refl;
  disk = λ c. same_if (λ x. x.disk) (is_same_instance i c.instance) c state refl;
}

-- a container has another state
module _ (s : Inside) (h : IsInside s) (i : Instance) (here : HeldAs s i) (state : ContainerState)
    (m : BTreeMap ℕ Container)
    (entries : m.entries ≡ set_value (is_at (nat_cmp i.number)) s.containers.entries (in_state here.one state))
    (found : (n : ℕ) → get nat_cmp m n ≡ cond (is_at (nat_cmp i.number) n) (Some (in_state here.one state))
    (get nat_cmp s.containers n)) where
  abbrev pub turned : Inside
  turned = record s { containers = m }

  its_number : number_of here.one ≡ i.number
  its_number = found_number i.number s.containers.entries here.one h.numbered here.held

  pub view-turned : store_view_of turned ≡ with_state (store_view_of s) i state
  view-turned =
      ap (λ cs. record (store_view_of s) { containers = cs })
      (ap (λ (es : List (ℕ × Container)). values_of es) entries
      ∙ values-turned i s.epoch s.last here.same state s.containers.entries here.one here.held h.numbered h.store.given
      h.store.rising)

  pub IsInside-turned : IsInside turned
  IsInside-turned =
      let memory_is : used_memory (store_view_of turned) ≡ used_memory (store_view_of s) =
      ap used_memory view-turned ∙ sum_by-map_same (λ c. c.memory) (turn i state) (turn-IsTurn i state).memory
      (store_view_of s).containers in
      let disk_is : used_disk (store_view_of turned) ≡ used_disk (store_view_of s) =
      ap used_disk view-turned ∙ sum_by-map_same (λ c. c.disk) (turn i state) (turn-IsTurn i state).disk
      (store_view_of s).containers in
      record {
        store = subst IsStore (sym view-turned) (IsStore-turn (turn i state) (store_view_of s)
            (turn-IsTurn i state) h.store);
        numbered = subst AreNumbered (sym entries) (numbered-turned i.number
            (in_state here.one state) its_number s.containers.entries h.numbered);
        jobs =
            jobs-turned s.jobs s.jobs s.containers m here.one h.jobs (in_state here.one state) refl
            (ap (get nat_cmp s.containers) its_number ∙ here.held)
            (λ n. found n ∙ ap (λ k. cond (is_at (nat_cmp k) n) (Some (in_state here.one state))
            (get nat_cmp s.containers n)) (sym its_number));
        memory_is = h.memory_is ∙ sym memory_is;
        disk_is = h.disk_is ∙ sym disk_is;
      }

-- what a container has is among what is used
module _ (s : Inside) (h : IsInside s) (i : Instance) (here : HeldAs s i) where
  sum_held : (f : Container → ℕ) → sum_by f (values_of (remove_entry (is_at (nat_cmp i.number)) s.containers.entries)) +
      f here.one ≡ sum_by f (values_of s.containers.entries)
  sum_held f =
      ap (λ o. sum_by f (values_of (remove_entry (is_at (nat_cmp i.number)) s.containers.entries)) + unwrap_or
      (option_map f o) 0) (sym here.held)
      ∙ sum_by-remove_entry f (is_at (nat_cmp i.number)) s.containers.entries

  pub memory-held : here.one.memory ≤ s.used_memory
  memory-held = let sums = sum_held (λ c. c.memory) in omega (arith, sums, h.memory_is)

  pub disk-held : here.one.disk ≤ s.used_disk
  disk-held = let sums = sum_held (λ c. c.disk) in omega (arith, sums, h.disk_is)

-- a container goes
module _ (s : Inside) (h : IsInside s) (i : Instance) (here : HeldAs s i) (m : BTreeMap ℕ Container)
    (js : BTreeSet JobEntry)
    (entries : m.entries ≡ remove_entry (is_at (nat_cmp i.number)) s.containers.entries)
    (found : (n : ℕ) → get nat_cmp m n ≡ cond (is_at (nat_cmp i.number) n) None (get nat_cmp s.containers n))
    (left : (q : JobEntry) → contains entry_order js q ≡ cond
    (is_at (entry_order (job_entry here.one.job i.number)) q) false (contains entry_order s.jobs q)) where
  abbrev pub removed : Inside
  removed = record s {
    containers = m;
    jobs = js;
    used_memory = s.used_memory - here.one.memory;
    used_disk = s.used_disk - here.one.disk;
  }

  number_gone : number_of here.one ≡ i.number
  number_gone = found_number i.number s.containers.entries here.one h.numbered here.held

  pub view-removed : store_view_of removed ≡ without_container (store_view_of s) i
  view-removed =
      ap (λ cs. record (store_view_of s) { containers = cs })
      (ap (λ (es : List (ℕ × Container)). values_of es) entries
      ∙ values-removed i s.epoch s.last here.same s.containers.entries h.numbered h.store.given h.store.rising)

  sum_left : (f : Container → ℕ) → sum_by f (values_of m.entries) + f here.one
      ≡ sum_by f (values_of s.containers.entries)
  sum_left f =
      ap (λ (es : List (ℕ × Container)). sum_by f (values_of es) + f here.one) entries ∙ sum_held s h i here f

  pub IsInside-removed : IsInside removed
  IsInside-removed =
      let memory = sum_left (λ c. c.memory) in
      let disk = sum_left (λ c. c.disk) in
      record {
        store = subst IsStore (sym view-removed) (IsStore-filter (λ c. not (is_same_instance i c.instance))
            (store_view_of s) h.store);
        numbered = subst AreNumbered (sym entries) (numbered-removed
            (is_at (nat_cmp i.number)) s.containers.entries h.numbered);
        jobs =
            jobs-removed s.jobs js s.containers m here.one h.jobs
            (ap (get nat_cmp s.containers) number_gone ∙ here.held)
            (λ n. found n ∙ ap (λ k. cond (is_at (nat_cmp k) n) None (get nat_cmp s.containers n)) (sym number_gone))
            (λ q. left q ∙ ap (λ k. cond (is_at (entry_order (job_entry here.one.job k)) q) false
            (contains entry_order s.jobs q)) (sym number_gone));
        memory_is = omega (arith, h.memory_is, memory);
        disk_is = omega (arith, h.disk_is, disk);
      }

-- the next number has no container
pub unused : (s : Inside) → IsInside s → get nat_cmp s.containers (s.last + 1) ≡ None
unused s h = by (get nat_cmp s.containers (s.last + 1)) refl
  where
    by : (o : Option Container) → get nat_cmp s.containers (s.last + 1) ≡ o → o ≡ None
    by None e = refl
    by (Some c) e =
        let number = found_number (s.last + 1) s.containers.entries c h.numbered e in
        let given : IsGiven s.epoch s.last c =
        subst (λ o. IfSome o (IsGiven s.epoch s.last)) e (IfSome-lookup_from_All (IsGiven s.epoch s.last)
        (is_at (nat_cmp (s.last + 1))) s.containers.entries h.store.given) in
        let known = given.known in
        absurd (omega (arith, number, known))

-- nor has it an entry
pub unlisted : (s : Inside) → IsInside s → (c : Container) → number_of c ≡ s.last + 1
    → contains entry_order s.jobs (entry_of c) ≡ false
unlisted s h c is =
    h.jobs (entry_of c) ∙ ap (λ n. is_entry_of (entry_of c) (get nat_cmp s.containers n)) is ∙ ap
    (is_entry_of (entry_of c)) (unused s h)

-- what was taken back leaves what the fields mean
pub IsInside-same : (s : Inside) → IsInside s → (m : BTreeMap ℕ Container) (js : BTreeSet JobEntry)
    → m.entries ≡ s.containers.entries
    → ((q : JobEntry) → contains entry_order js q ≡ contains entry_order s.jobs q)
    → IsInside (record s { containers = m; jobs = js })
IsInside-same s h m js entries same =
    let view : store_view_of (record s { containers = m; jobs = js }) ≡ store_view_of s =
    ap (λ (es : List (ℕ × Container)). record (store_view_of s) { containers = values_of es }) entries in
    record {
      store = subst IsStore (sym view) h.store;
      numbered = subst AreNumbered (sym entries) h.numbered;
      jobs = λ q. same q ∙ h.jobs q ∙ ap (λ (es : List (ℕ × Container)).
          is_entry_of q (lookup (is_at (nat_cmp q.number)) es)) (sym entries);
      memory_is = h.memory_is ∙ ap used_memory (sym view);
      disk_is = h.disk_is ∙ ap used_disk (sym view);
    }

not_below : (x y : ℕ) → y ≤ x → nat_lt x y ≡ false
not_below x y l = grind (arith, l)

-- it is refused for nothing
pub reserving-ok : (v : StoreView) (free : Amounts) (job : JobName) (memory disk : ℕ) → free ≡ free_of v
    → memory ≤ free.memory → disk ≤ free.disk → free.containers ≢ 0
    → reserving v job memory disk ≡ Ok (reserved v job memory disk)
reserving-ok v free job memory disk free_is room_m room_d slot =
    let done : Result StoreView StoreRefusal = Ok (reserved v job memory disk) in
    ap (λ (a : Amounts). cond (nat_lt a.memory memory) (Err NoMemoryLeft)
    (cond (nat_lt a.disk disk) (Err NoDiskLeft) (cond (eqb a.containers 0) (Err NoSlot) done))) (sym free_is)
    ∙ ap (λ b. cond b (Err NoMemoryLeft) (cond (nat_lt free.disk disk) (Err NoDiskLeft)
    (cond (eqb free.containers 0) (Err NoSlot) done))) (not_below free.memory memory room_m)
    ∙ ap (λ b. cond b (Err NoDiskLeft) (cond (eqb free.containers 0) (Err NoSlot) done))
    (not_below free.disk disk room_d)
    ∙ ap (λ b. cond b (Err NoSlot) done) (ne_eqb free.containers 0 slot)

-- a container comes, where it fits what is free
module _ (s : Inside) (h : IsInside s) (free : Amounts) (job : JobName) (memory disk : ℕ) (m : BTreeMap ℕ Container)
    (js : BTreeSet JobEntry)
    (entries : m.entries ≡ insert_entry nat_cmp s.containers.entries (s.last + 1)
    (next_container (store_view_of s) job memory disk))
    (found : (n : ℕ) → get nat_cmp m n ≡ cond (is_at (nat_cmp (s.last + 1)) n)
    (Some (next_container (store_view_of s) job memory disk)) (get nat_cmp s.containers n))
    (added : (q : JobEntry) → contains entry_order js q ≡ cond
    (is_at (entry_order (entry_of (next_container (store_view_of s) job memory disk))) q) true
    (contains entry_order s.jobs q)) where
  abbrev new : Container
  new = next_container (store_view_of s) job memory disk

  abbrev pub pushed : Inside
  pushed = record s {
    containers = m;
    jobs = js;
    last = s.last + 1;
    used_memory = s.used_memory + memory;
    used_disk = s.used_disk + disk;
  }

  pub view-pushed : store_view_of pushed ≡ reserved (store_view_of s) job memory disk
  view-pushed =
      ap (λ cs. record (reserved (store_view_of s) job memory disk) { containers = cs })
      (ap (λ (es : List (ℕ × Container)). values_of es) entries
      ∙ values-pushed s.epoch s.last (s.last + 1) new (omega arith) s.containers.entries h.numbered h.store.given)

  pub IsInside-pushed : free ≡ free_of (store_view_of s) → memory ≤ free.memory → disk ≤ free.disk → free.containers ≢ 0
      → IsInside pushed
  IsInside-pushed free_is room_m room_d slot =
      let v : StoreView = store_view_of s in
      let fm : free.memory ≡ v.totals.memory - used_memory v = ap (λ a. a.memory) free_is in
      let fd : free.disk ≡ v.totals.disk - used_disk v = ap (λ a. a.disk) free_is in
      let fc : free.containers ≡ min (v.totals.containers - length v.containers) (4294967295 - v.last) =
      ap (λ a. a.containers) free_is in
      let store = IsStore-reserved v job memory disk h.store (omega (arith, h.store.memory))
      (omega (arith, h.store.disk)) (omega arith) (omega arith) in
      let memory_is : used_memory (store_view_of pushed) ≡ used_memory v + memory =
      ap used_memory view-pushed ∙ sum_by_push (λ c. c.memory) v.containers new in
      let disk_is : used_disk (store_view_of pushed) ≡ used_disk v + disk =
      ap used_disk view-pushed ∙ sum_by_push (λ c. c.disk) v.containers new in
      record {
        store = subst IsStore (sym view-pushed) store;
        numbered = subst AreNumbered (sym entries) (numbered-pushed new s.containers.entries h.numbered);
        jobs = jobs-pushed s.jobs js s.containers m new h.jobs (unused s h) found added;
        memory_is = omega (arith, h.memory_is);
        disk_is = omega (arith, h.disk_is);
      }
