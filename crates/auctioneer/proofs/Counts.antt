-- What one container more does to the counts of a zone or a cell.
use Rattle.std.proofs.Common.{◌≡◌, ℕ, zero, suc, ◌+◌, ◌*◌, ◌<◌, ◌≤◌, ◌^◌, Bool, true, false, ◌&&◌, cond, List, [], ◌∷◌, ◌++◌, length, take, set, get_or, Option, Some, None, unwrap_or, refl, sym, ap, subst, ◌∙◌, arith}
use Rattle.std.specs.HashMap.{get}
use Rattle.std.specs.Option.{is_some}
use Rattle.std.specs.Result.{OnOk, OnErr}
use Rattle.std.specs.declared.result.Result.{Result}
use Rattle.std.specs.declared.result.Result.TheVariants.{Ok, Err}
use Rattle.std.specs.List.{All, count_by}
use Rattle.std.proofs.lemmas.Bool.{and_parts}
use Rattle.std.proofs.lemmas.Cmp.{nat_list_eq_equiv}
use Rattle.std.proofs.lemmas.List.{length-take, take_all}
use Rattle.std.specs.declared.cmp.Ordering.TheVariants.{Less}
use Rattle.std.proofs.lemmas.List.Elements.{All-take, All-head, All-tail}
use Rattle.row_tables.specs.Table.{IsRising}
use Rattle.row_tables.proofs.Public.{All-above, below_rest, IsRising-tail}
use Rattle.diego_names.specs.Order.{name_order}
use Rattle.std.proofs.lemmas.List.Sums.{count_by-le-length, sum_by-cons, sum_by_more, sum_by_push, sum_by-set, sum_by-le}
use Rattle.diego_names.specs.declared.key.Key.{Key}
use Rattle.cell_records.specs.declared.job.Job.{Job}
use Rattle.cell_records.specs.declared.job_name.JobName.{JobName}
use Rattle.cell_records.specs.declared.job_name.JobName.TheVariants.{Lrp, Task}
use Rattle.auctioneer.specs.Asked.{AreStands}
use Rattle.auctioneer.specs.Stands.{same_name, is_of, held_of, with_job}
use Rattle.auctioneer.specs.Tallies.{place_of, held_at, count_at, same_share, tallied, counts_for, Gains, SaysTheSame, CountsAt}
use Rattle.auctioneer.specs.declared.stand.Stand.{Stand}
use Rattle.auctioneer.specs.declared.tally.Place.{Place}
use Rattle.auctioneer.specs.declared.tally.Place.TheVariants.{Zone, Cell}
use Rattle.auctioneer.specs.declared.tally.Share.{Share}
use Rattle.auctioneer.specs.declared.tally.Tally.{Tally}
use Rattle.auctioneer.proofs.Placings.{same_from_test, test_from_same, other_from_test, below_is_other}

-- a count that was put at one key, read at a key that may be another
gain_at : (a b : Bool) (count : ℕ) (had : Option ℕ) → (a ≡ true → b ≡ true → count ≡ unwrap_or had 0)
    → unwrap_or (cond (a && b) (Some (count + 1)) had) 0 ≡ unwrap_or had 0 + cond b (cond a 1 0) 0
gain_at true true count had same = ap (λ n. n + 1) (same refl refl)
gain_at true false count had same = omega arith
gain_at false true count had same = omega arith
gain_at false false count had same = omega arith

-- what is put at a process and a zone counts there alone
pub gains : (old new : Tally) (key : Key) (zone : List ℕ) (count : ℕ) → count ≡ tallied old (Lrp key) zone
    → ((q : Share) → get same_share new.counts q ≡ cond (same_share (record { process = key.process; place = zone }) q)
    (Some (count + 1)) (get same_share old.counts q)) → Gains old new (Lrp key) zone
gains old new key zone count is put (Lrp o) place =
    let q : Share = record { process = o.process; place = place } in
    let one : same_name key.process o.process ≡ true → same_name zone place ≡ true
    → count ≡ unwrap_or (get same_share old.counts q) 0 =
    λ p z.
    let process : key.process ≡ o.process = same_from_test key.process o.process p in
    let here : zone ≡ place = same_from_test zone place z in
    is ∙ (λ i. unwrap_or (get same_share old.counts (record { process = process i; place = here i })) 0) in
    ap (λ (x : Option ℕ). unwrap_or x 0) (put q)
    ∙ gain_at (same_name key.process o.process) (same_name zone place) count (get same_share old.counts q) one
    ∙ ap (λ t. unwrap_or (get same_share old.counts q) 0 + cond (same_name zone place) (cond t 1 0) 0)
    (nat_list_eq_equiv.symm key.process o.process)
gains old new key zone count is put (Task t) place =
    elim (same_name zone place) as (λ b. 0 ≡ 0 + cond b 0 0) [ true ↦ refl | false ↦ refl ]

-- what fails only where nothing is there doesn't fail where something is
pub there_then_ok : {T E : Type 0} (r : Result T E) (had : Option ℕ) (P : Type 0) → is_some had ≡ true
    → OnErr r (had ≡ None) → OnOk r P → P
there_then_ok (Ok x) had P some absent h = h
there_then_ok (Err e) had P some absent h = absurd (none_is_not_some had some absent)
  where
    none_is_not_some : (o : Option ℕ) → is_some o ≡ true → o ≡ None → ⊥
    none_is_not_some None there e = absurd cc
    none_is_not_some (Some n) there e = absurd cc

pub none_from_test : (o : Option ℕ) → is_some o ≡ false → o ≡ None
none_from_test None e = refl
none_from_test (Some n) e = absurd cc

-- where nothing was counted, a count of none that is put there changes nothing
pub kept_with_zero : (old new : Tally) (key : Key) (zone : List ℕ)
    → get same_share old.counts (record { process = key.process; place = zone }) ≡ None
    → ((q : Share) → get same_share new.counts q ≡ cond (same_share (record { process = key.process; place = zone }) q)
    (Some 0) (get same_share old.counts q)) → SaysTheSame old new
kept_with_zero old new key zone none put (Lrp o) name =
    let q : Share = record { process = o.process; place = name } in
    let one : same_share (record { process = key.process; place = zone }) q ≡ true
    → 0 ≡ unwrap_or (get same_share old.counts q) 0 =
    λ e.
    let both = and_parts (same_name key.process o.process) (same_name zone name) e in
    let process : key.process ≡ o.process = same_from_test key.process o.process both.0 in
    let here : zone ≡ name = same_from_test zone name both.1 in
    sym ((λ i. unwrap_or (get same_share old.counts (record { process = sym process i; place = sym here i })) 0) ∙ ap
    (λ (x : Option ℕ). unwrap_or x 0) none) in
    ap (λ (x : Option ℕ). unwrap_or x 0) (put q)
    ∙ elim (same_share (record { process = key.process; place = zone }) q) as
    (λ t. same_share (record { process = key.process; place = zone }) q ≡ t
    → unwrap_or (cond t (Some 0) (get same_share old.counts q)) 0 ≡ unwrap_or (get same_share old.counts q) 0) [
      | true ↦ λ e. one e
      | false ↦ λ e. refl
    ] refl
kept_with_zero old new key zone none put (Task t) name = refl

at_most : (b : Bool) (n m : ℕ) → n ≤ m → cond b n 0 ≤ m
at_most true n m h = h
at_most false n m h = omega arith

-- a job keeps the zone and the name of its cell
place_kept : (place : Place) (job : Job) (s : Stand) → place_of place (with_job job s) ≡ place_of place s
place_kept Zone job s = refl
place_kept Cell job s = refl

both_parts : (b : Bool) (n m k : ℕ) → n ≡ m + k → cond b n 0 ≡ cond b m 0 + cond b k 0
both_parts true n m k h = h
both_parts false n m k h = refl

module _ (place : Place) where
  -- what a cell holds is at most what is on it
  pub held_at-le : (job : JobName) (name : List ℕ) (s : Stand) → held_at place job name s ≤ length s.jobs
  held_at-le job name s = at_most (same_name (place_of place s) name) (held_of job s) (length s.jobs)
      (count_by-le-length (is_of job) s.jobs)

  -- the jobs of a cell so far
  abbrev pub held_so_far : JobName → List ℕ → Stand → ℕ → ℕ
  held_so_far job name s i = cond (same_name (place_of place s) name) (count_by (is_of job) (take i s.jobs)) 0

  pub held_so_far-le : (job : JobName) (name : List ℕ) (s : Stand) (i : ℕ) → i ≤ length s.jobs
      → held_so_far job name s i ≤ i
  held_so_far-le job name s i below =
      at_most (same_name (place_of place s) name) (count_by (is_of job) (take i s.jobs)) i
      (omega (arith, count_by-le-length (is_of job) (take i s.jobs), length-take i s.jobs))

  pub held_so_far_more : (job : JobName) (name : List ℕ) (s : Stand) (i : ℕ) (d : JobName) → i < length s.jobs
      → held_so_far job name s (i + 1) ≡ held_so_far job name s i + counts_for (get_or s.jobs i d)
      (place_of place s) job name
  held_so_far_more job name s i d below =
      both_parts (same_name (place_of place s) name) (count_by (is_of job) (take (i + 1) s.jobs))
      (count_by (is_of job) (take i s.jobs)) (cond (is_of job (get_or s.jobs i d)) 1 0)
      (sum_by_more (λ (x : JobName). cond (is_of job x) 1 0) s.jobs i d below)

  -- a cell with a job more
  held_at-with_job : (job : Job) (s : Stand) (other : JobName) (name : List ℕ)
      → held_at place other name (with_job job s) ≡ held_at place other name s + counts_for job.job
      (place_of place s) other name
  held_at-with_job job s other name =
      ap (λ n. cond (same_name n name) (count_by (is_of other) (s.jobs ++ job.job ∷ [])) 0) (place_kept place job s)
      ∙ both_parts (same_name (place_of place s) name) (count_by (is_of other) (s.jobs ++ job.job ∷ []))
      (count_by (is_of other) s.jobs) (cond (is_of other job.job) 1 0)
      (sum_by_push (λ (x : JobName). cond (is_of other x) 1 0) s.jobs job.job)

  -- the places with a job more on one of the cells
  pub count_at-set : (stands : List Stand) (at : ℕ) (s : Stand) (job : Job) (other : JobName) (name : List ℕ)
      → at < length stands → s ≡ get_or stands at s → count_at place (set stands at (with_job job s)) other name
      ≡ count_at place stands other name + counts_for job.job (place_of place s) other name
  count_at-set stands at s job other name inside is =
      let sums = sum_by-set (held_at place other name) stands at (with_job job s) s inside in
      let more = held_at-with_job job s other name in
      let same : held_at place other name (get_or stands at s) ≡ held_at place other name s =
      ap (held_at place other name) (sym is) in
      omega (arith, sums, more, same)

  -- a place has few containers
  pub count_at-few : (stands : List Stand) (i : ℕ) (job : JobName) (name : List ℕ) → AreStands stands
      → count_at place (take i stands) job name ≤ 1000 * 2 ^ 33
  count_at-few stands i job name h =
      let most = sum_by-le (held_at place job name) (2 ^ 33) (take i stands)
      (All-take (λ s. held_at place job name s ≤ 2 ^ 33) i stands (λ k d below.
      let few : length (get_or stands k d).jobs + (get_or stands k d).free.containers < 2 ^ 33 =
      (h.each k d below).few in
      omega (arith, held_at-le job name (get_or stands k d)))) in
      omega (arith, length-take i stands, h.few)

  -- the tally once a cell has a job more
  pub CountsAt-put : (old new : Tally) (stands : List Stand) (at : ℕ) (s : Stand) (job : Job)
      → CountsAt place old stands → Gains old new job.job (place_of place s) → at < length stands
      → s ≡ get_or stands at s → CountsAt place new (set stands at (with_job job s))
  CountsAt-put old new stands at s job counted more inside is = λ other name.
      more other name ∙ ap (λ n. n + counts_for job.job (place_of place s) other name) (counted other name) ∙ sym
      (count_at-set stands at s job other name inside is)

  -- a count of the tally is far from the end of its type
  pub tallied-few : (tally : Tally) (stands : List Stand) (job : JobName) (name : List ℕ) → AreStands stands
      → CountsAt place tally stands → tallied tally job name + 1 < 2 ^ 64
  tallied-few tally stands job name h counted =
      let few : count_at place stands job name ≤ 1000 * 2 ^ 33 =
      subst (λ (ss : List Stand). count_at place ss job name ≤ 1000 * 2 ^ 33)
      (take_all (length stands) stands (omega arith)) (count_at-few stands (length stands) job name h) in
      omega (arith, counted job name)

-- where no cell has the name, none is counted
none_named : (job : JobName) (name : List ℕ) (ss : List Stand) → All (λ s. same_name s.cell name ≡ false) ss
    → count_at Cell ss job name ≡ 0
none_named job name [] h = refl
none_named job name (s ∷ ss) h =
    let first : held_at Cell job name s ≡ 0 = ap (λ b. cond b (held_of job s) 0)
    (All-head (λ s. same_name s.cell name ≡ false) s ss h) in
    let rest = none_named job name ss (All-tail (λ s. same_name s.cell name ≡ false) s ss h) in
    sum_by-cons (held_at Cell job name) s ss ∙ (λ i. first i + rest i)

-- a cell's name counts what the cell holds
pub held-from_count : (job : JobName) (ss : List Stand) (at : ℕ) (d : Stand) → IsRising name_order (λ s. s.cell) ss
    → at < length ss → count_at Cell ss job (get_or ss at d).cell ≡ held_of job (get_or ss at d)
held-from_count job [] at d h below = absurd (omega arith)
held-from_count job (y ∷ ys) zero d h below =
    let above : All (λ z. name_order y.cell z.cell ≡ Less) ys =
    All-above name_order (λ s. s.cell) y.cell ys (below_rest name_order (λ s. s.cell) y ys h) in
    let others = none_named job y.cell ys (λ k x lt. other_from_test (get_or ys k x).cell y.cell
    (λ e. below_is_other y.cell (get_or ys k x).cell (above k x lt) (sym e))) in
    let here : held_at Cell job y.cell y ≡ held_of job y =
    ap (λ b. cond b (held_of job y) 0) (test_from_same y.cell y.cell refl) in
    let alone : held_of job y + 0 ≡ held_of job y = omega arith in
    sum_by-cons (held_at Cell job y.cell) y ys ∙ (λ i. here i + others i) ∙ alone
held-from_count job (y ∷ ys) (suc i) d h below =
    let above : All (λ z. name_order y.cell z.cell ≡ Less) ys =
    All-above name_order (λ s. s.cell) y.cell ys (below_rest name_order (λ s. s.cell) y ys h) in
    let name = (get_or ys i d).cell in
    let first : held_at Cell job name y ≡ 0 = ap (λ b. cond b (held_of job y) 0)
    (other_from_test y.cell name (below_is_other y.cell name (above i d (omega arith)))) in
    let rest = held-from_count job ys i d (IsRising-tail name_order (λ s. s.cell) y ys h) (omega arith) in
    let alone : 0 + held_of job (get_or ys i d) ≡ held_of job (get_or ys i d) = omega arith in
    sum_by-cons (held_at Cell job name) y ys ∙ (λ j. first j + rest j) ∙ alone
