-- No step loses an instance that is wanted, and none doubles one.
use Rattle.std.proofs.Common.{◌≡◌, ◌≢◌, ℕ, ◌+◌, ◌<◌, ◌≤◌, Bool, true, false, cond, not, ◌&&◌, ◌==◌, max, List, [], ◌∷◌, map, filter, is_some, Some, refl, sym, ap, subst, ◌∙◌, arith}
use Rattle.std.specs.List.{All, Contains, count_by}
use Rattle.std.proofs.Math.Nat.{le-max_left, le-max_right}
use Rattle.std.proofs.lemmas.Bool.{false_from_ne_true}
use Rattle.std.proofs.lemmas.Bool.Decides.{Decides-eqb}
use Rattle.std.proofs.lemmas.List.Elements.{All-contains, All-tail, All-head, Contains-append_left, Contains-get_or, filter_passes}
use Rattle.std.proofs.lemmas.List.Folds.{fold-map}
use Rattle.std.proofs.lemmas.List.Sums.{get_or-le-sum_by, sum_by-append, sum_by-cons}
use Rattle.diego_names.specs.declared.key.Key.{Key}
use Rattle.cell_records.specs.declared.answer.Answer.{Answer}
use Rattle.cell_records.specs.declared.job.Job.{Job}
use Rattle.cell_records.specs.declared.job_name.JobName.{JobName}
use Rattle.cell_records.specs.declared.job_name.JobName.TheVariants.{Lrp, Task}
use Rattle.auctioneer.specs.Order.{turn_of, turn_order}
use Rattle.auctioneer.specs.Stands.{stands_of}
use Rattle.auctioneer.proofs.Public.{IsKeyOrder-turn_order, names_answers, same_turn}
use Rattle.room_facts.proofs.Lists.{Contains-filter, sum_by-none}
use Rattle.what_if.specs.Plans.{jobs_of_loss, left_of}
use Rattle.what_if.specs.Stays.{holder_in, is_held, is_lost, is_open, open_cells, same_key, stays}
use Rattle.what_if.specs.Waiting.{does_wait, instance_job, waits}
use Rattle.what_if.specs.declared.site.Site.{Site}
use Rattle.what_if.specs.declared.site.Stay.{Stay}
use Rattle.what_if.specs.declared.site.Wanted.{Wanted}
use Rattle.what_if.proofs.Differing.{Contains-mapped, Contains-table, Differ, differ-by, differ-parts, head-differs, sum-table, tail-differs}
use Rattle.what_if.proofs.Lists.{filter_differs}
use Rattle.what_if.proofs.Names.{test_from_name}
use Rattle.cell_drains.specs.Laws.{copies, is_instance, times_in, IsOfTelling, KeepsInstance, StepsKeep, StepsKeepTheWanted}
use Rattle.cell_drains.specs.Steps.{after_step}
use Rattle.cell_drains.specs.declared.batches.Batch.{Batch}
use Rattle.cell_drains.proofs.Copies.{copies-after_step, put_on, there}
use Rattle.cell_drains.proofs.Moved.{put_and_left}
use Rattle.cell_drains.proofs.NextSites.{cells_differ, jobs_differ, JobsDiffer}
use Rattle.cell_drains.proofs.Times.{key_from_test}

-- the job of an instance
instance_name : (key : Key) (name : JobName) → is_instance key name ≡ true → name ≡ Lrp key
instance_name key (Lrp other) e = ap Lrp (key_from_test other key e)
instance_name key (Task task) e = cc

key_itself : (key : Key) → same_key key key ≡ true
key_itself key =
    ap (λ (b : Bool). b && (key.index == key.index)) (test_from_name key.process key.process refl) ∙
    (Decides-eqb key.index key.index).1 refl

-- a count of what a test never passes
count_none : {X : Type 0} (p : X → Bool) (xs : List X) → ((x : X) → Contains xs x → p x ≡ false) → count_by p xs ≡ 0
count_none p xs h = sum_by-none (λ x. cond (p x) 1 0) xs (λ x inside. ap (λ (b : Bool). cond b 1 0) (h x inside))

-- and of what it passes at one key alone
count_one : {X A : Type 0} (f : X → A) (p : X → Bool) (v : A) → ((x : X) → p x ≡ true → f x ≡ v) → (xs : List X)
    → Differ (map f xs) → count_by p xs ≤ 1
count_one f p v same [] h = omega arith
count_one f p v same (x ∷ xs) h =
    let whole : count_by p (x ∷ xs) ≡ cond (p x) 1 0 + count_by p xs = sum_by-cons (λ y. cond (p y) 1 0) x xs in
    let rest : count_by p xs ≤ 1 = count_one f p v same xs (tail-differs (f x) (map f xs) h) in
    elim (p x) as (λ b. p x ≡ b → count_by p (x ∷ xs) ≡ cond b 1 0 + count_by p xs → count_by p (x ∷ xs) ≤ 1) [
      | true ↦ λ e sum.
          let none : count_by p xs ≡ 0 = count_none p xs (λ y inside.
          false_from_ne_true (p y) (λ t. All-contains (λ a. f x ≢ a) (map f xs) (f y) (head-differs (f x) (map f xs) h)
          (Contains-mapped f xs y inside) (same x e ∙ sym (same y t)))) in
          omega (arith, sum, none)
      | false ↦ λ e sum. omega (arith, sum, rest)
    ] refl whole

-- an instance is held exactly where it stands on some cell
held_nowhere : (key : Key) (ss : List Stay) → is_some (holder_in ss key) ≡ false → there key ss ≡ 0
held_nowhere key [] e = refl
held_nowhere key (s ∷ ss) e =
    let whole : there key (s ∷ ss) ≡ cond (same_key s.key key) 1 0 + there key ss =
    sum_by-cons (λ (t : Stay). cond (same_key t.key key) 1 0) s ss in
    elim (same_key s.key key) as (λ b. is_some (cond b (Some s.cell) (holder_in ss key)) ≡ false
    → there key (s ∷ ss) ≡ cond b 1 0 + there key ss → there key (s ∷ ss) ≡ 0) [
      | true ↦ λ none sum. cc
      | false ↦ λ none sum. omega (arith, sum, held_nowhere key ss none)
    ] e whole

held_somewhere : (key : Key) (ss : List Stay) → is_some (holder_in ss key) ≡ true → 0 < there key ss
held_somewhere key [] e = cc
held_somewhere key (s ∷ ss) e =
    let whole : there key (s ∷ ss) ≡ cond (same_key s.key key) 1 0 + there key ss =
    sum_by-cons (λ (t : Stay). cond (same_key t.key key) 1 0) s ss in
    elim (same_key s.key key) as (λ b. is_some (cond b (Some s.cell) (holder_in ss key)) ≡ true
    → there key (s ∷ ss) ≡ cond b 1 0 + there key ss → 0 < there key (s ∷ ss)) [
      | true ↦ λ some sum. omega (arith, sum)
      | false ↦ λ some sum. omega (arith, sum, held_somewhere key ss some)
    ] e whole

module _ (site : Site) (batch : List (List ℕ)) (cells : Differ (map (λ (c : Answer). c.cell) site.cells))
    (jobs : JobsDiffer site) (telling : All (λ s. is_lost batch s.cell ≡ false) site.silent_stays) (w : Wanted)
    (inside : Contains site.wanted w) where
  waits_differ : Differ (map (λ (j : Job). j.job) (waits site batch))
  waits_differ = jobs (does_wait site batch)

  -- what waits is put on a cell or left over
  moved : put_on site batch w.key + times_in w.key (left_of site batch) ≡ times_in w.key (jobs_of_loss site batch)
  moved =
      put_and_left w.key (open_cells site batch) (filter_differs (λ (c : Answer). c.cell)
      (is_open batch) site.cells cells)
      (stands_of (open_cells site batch)) (jobs_of_loss site batch)
      (names_answers (open_cells site batch) (jobs_of_loss site batch))

  fewer_in_order : times_in w.key (jobs_of_loss site batch) ≤ times_in w.key (waits site batch)
  fewer_in_order = sum-table turn_order turn_of (λ (j : Job). cond (is_instance w.key j.job) 1 0) (waits site batch)

  once_waits : times_in w.key (waits site batch) ≤ 1
  once_waits = count_one (λ (j : Job). j.job) (λ (j : Job). is_instance w.key j.job) (Lrp w.key)
      (λ j e. instance_name w.key j.job e) (waits site batch) waits_differ

  -- no task that waits is the instance
  none_pending : times_in w.key site.pending ≡ 0
  none_pending =
      count_none (λ (j : Job). is_instance w.key j.job) site.pending (λ j there.
      false_from_ne_true (is_instance w.key j.job) (λ e.
      differ-parts (λ (i : Job). i.job) (map instance_job (filter (λ (x : Wanted). true) site.wanted)) site.pending
      (instance_job w) j (jobs (λ x. true))
      (Contains-mapped instance_job (filter (λ (x : Wanted). true) site.wanted) w
      (Contains-filter (λ (x : Wanted). true) site.wanted w inside refl)) there
      (sym (instance_name w.key j.job e))))

  -- and no instance waits that is held
  none_held : is_held site batch w.key ≡ true → times_in w.key (waits site batch) ≡ 0
  none_held held =
      let waiting : List Wanted = filter (does_wait site batch) site.wanted in
      let both : times_in w.key (waits site batch) ≡ times_in w.key
      (map instance_job waiting) + times_in w.key site.pending =
      sum_by-append (λ (j : Job). cond (is_instance w.key j.job) 1 0) (map instance_job waiting) site.pending in
      let made : times_in w.key (map instance_job waiting) ≡ count_by (λ (x : Wanted). same_key x.key w.key) waiting =
      fold-map (λ (n : ℕ) (j : Job). n + cond (is_instance w.key j.job) 1 0) instance_job 0 waiting in
      let none : count_by (λ (x : Wanted). same_key x.key w.key) waiting ≡ 0 =
      count_none (λ (x : Wanted). same_key x.key w.key) waiting (λ x there.
      false_from_ne_true (same_key x.key w.key) (λ e. waits_not x
      (All-contains (λ y. does_wait site batch y ≡ true) waiting x
      (filter_passes (does_wait site batch) site.wanted) there)
      (ap (is_held site batch) (key_from_test x.key w.key e) ∙ held))) in
      omega (arith, both, made, none, none_pending)
    where
      waits_not : (x : Wanted) → does_wait site batch x ≡ true → is_held site batch x.key ≡ true → ⊥
      waits_not x waiting is =
          let not_so : does_wait site batch x ≡ false = ap (λ (b : Bool). not b && not x.crashed) is in
          cc

  -- one that is neither held nor crashed does
  some_waits : is_held site batch w.key ≡ false → w.crashed ≡ false → 0 < times_in w.key (jobs_of_loss site batch)
  some_waits free healthy =
      let waits_so : does_wait site batch w ≡ true = (λ i. not (free i) && not (healthy i)) in
      let first : Contains (map instance_job (filter (does_wait site batch) site.wanted)) (instance_job w) =
      Contains-mapped instance_job (filter (does_wait site batch) site.wanted) w
      (Contains-filter (does_wait site batch) site.wanted w inside waits_so) in
      let among : Contains (waits site batch) (instance_job w) =
      Contains-append_left (map instance_job (filter (does_wait site batch) site.wanted)) site.pending
      (instance_job w) first in
      let sorted : Contains (jobs_of_loss site batch) (instance_job w) =
      Contains-table turn_order turn_of IsKeyOrder-turn_order (instance_job w) (waits site batch)
      (differ-by (λ (j : Job). j.job) turn_of same_turn (waits site batch) waits_differ) among in
      let one : cond (is_instance w.key (instance_job w).job) 1 0 ≤ times_in w.key (jobs_of_loss site batch) =
      subst (λ (j : Job). cond (is_instance w.key j.job) 1 0 ≤ times_in w.key (jobs_of_loss site batch)) sorted.2
      (get_or-le-sum_by (λ (j : Job). cond (is_instance w.key j.job) 1 0) (jobs_of_loss site batch) sorted.0
      (instance_job w) sorted.1) in
      let some : 1 ≤ times_in w.key (jobs_of_loss site batch) =
      subst (λ (b : Bool). cond b 1 0 ≤ times_in w.key (jobs_of_loss site batch)) (key_itself w.key) one in
      omega (arith, some)

  after : copies (after_step site batch) [] w.key ≡ copies site batch w.key + put_on site batch w.key
  after = copies-after_step site batch w.key telling

  pub keeps_instance : KeepsInstance site batch w
  keeps_instance = record {
    stays = omega (arith, after);
    once = elim (is_held site batch w.key) as (λ b. is_held site batch w.key ≡ b
        → copies (after_step site batch) [] w.key ≤ max 1 (copies site batch w.key)) [
          | true ↦ λ e. omega (arith, after, moved, fewer_in_order, none_held e, le-max_right 1 (copies site batch w.key))
          | false ↦ λ e. omega (
            arith,
            after,
            moved,
            fewer_in_order,
            once_waits,
            held_nowhere w.key (stays site batch) e,
            le-max_left 1 (copies site batch w.key),
          )
        ] refl;
    found = λ healthy. elim (is_held site batch w.key) as
        (λ b. is_held site batch w.key ≡ b → 0 < copies (after_step site batch) [] w.key + times_in w.key
        (left_of site batch)) [
          | true ↦ λ e. omega (arith, after, held_somewhere w.key (stays site batch) e)
          | false ↦ λ e. omega (arith, after, moved, some_waits e healthy)
        ] refl;
  }

steps_keep : (site : Site) (bs : List Batch) → Differ (map (λ (c : Answer). c.cell) site.cells) → JobsDiffer site
    → All (IsOfTelling site) bs → StepsKeep site bs
steps_keep site [] cells jobs telling = tt
steps_keep site (b ∷ bs) cells jobs telling = (
  record {
    wanted = refl;
    each = λ k d lt. keeps_instance site b.cells cells jobs (All-head (IsOfTelling site) b bs telling) _
        (Contains-get_or site.wanted k d lt);
  },
  steps_keep (after_step site b.cells) bs (cells_differ site b.cells cells) (jobs_differ site b.cells jobs)
      (All-tail (IsOfTelling site) b bs telling),
)

pub steps_keep_the_wanted : StepsKeepTheWanted
steps_keep_the_wanted site bs h telling = steps_keep site bs h.cells.differ h.jobs telling
