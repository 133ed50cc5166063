-- No placing has more than there is room for.
use Rattle.std.proofs.Common.{◌≡◌, ℕ, ◌≤◌, Bool, true, false, ◌||◌, cond, ltb, List, length, get_or, filter, Option, inl, inr, refl, sym, ap, ◌∙◌, arith}
use Rattle.std.specs.List.{All, Contains, sum_by, count_by}
use Rattle.std.proofs.lemmas.Bool.{or_cases, ltb-true, le-leb, and_from}
use Rattle.std.proofs.lemmas.List.Elements.{All-contains, All-filter, filter_passes}
use Rattle.cell_records.specs.declared.amounts.Amounts.{Amounts}
use Rattle.cell_records.specs.declared.job.Job.{Job}
use Rattle.cell_records.specs.declared.job_name.JobName.{JobName}
use Rattle.auction_scoring.specs.Fits.{IsWithin}
use Rattle.auctioneer.specs.Stands.{same_name}
use Rattle.auctioneer.specs.declared.stand.Stand.{Stand}
use Rattle.room_facts.specs.Lacks.{has_tag}
use Rattle.room_facts.specs.Placings.{IsPlacing, IsAlike}
use Rattle.room_facts.specs.Rooms.{share_of, room_for, is_for, of_tag, is_as_large, as_large, sums, free_in_all, exceeds, is_short}
use Rattle.room_facts.proofs.Lists.{Contains-filter, Contains-from_filter, spread, sum_by-at_most, sum_by-filter, sum_by-ones}
use Rattle.room_facts.proofs.Names.{test_from_same, test_from_tag, same_tag}
use Rattle.room_facts.proofs.Shares.{large_within}

module _ (tag : Option (List ℕ)) (stands : List Stand) (jobs : List Job) (on : JobName → List ℕ)
    (h : IsPlacing stands jobs on) (own : All (λ j. j.tag ≡ tag) jobs) where
  abbrev goes : Job → Stand → Bool
  goes j s = same_name (on j.job) s.cell

  -- each job has a cell of the tag
  placed_there : (j : Job) → Contains jobs j → (s : Stand) × Contains (filter (has_tag tag) stands) s
      × (goes j s ≡ true)
  placed_there j i =
      let at = All-contains (λ j. (s : Stand) × Contains stands s × (s.cell ≡ on j.job) × (s.tag ≡ j.tag)) jobs j h.tags
      i in
      let its : j.tag ≡ tag = All-contains (λ (j : Job). j.tag ≡ tag) jobs j own i in (
        at.0,
        Contains-filter (has_tag tag) stands at.0 at.1 (test_from_tag tag at.0.tag (sym its ∙ sym at.3)),
        test_from_same (on j.job) at.0.cell (sym at.2),
      )

  within_there : (s : Stand) → Contains (filter (has_tag tag) stands) s
      → IsWithin (sums (filter (λ j. goes j s) jobs)) s.free
  within_there s i =
      All-contains (λ s. IsWithin (sums (filter (λ j. same_name (on j.job) s.cell) jobs)) s.free) stands s h.within
      (Contains-from_filter (has_tag tag) stands s i)

  -- what the jobs ask for in all is at most what is free
  pub placing_within : IsWithin (sums jobs) (free_in_all (filter (has_tag tag) stands))
  placing_within =
      let there = filter (has_tag tag) stands in
      let memory : sum_by (λ j. j.memory) jobs ≤ sum_by (λ s. sum_by (λ j. j.memory) (filter (λ j. goes j s) jobs))
      there =
      spread (λ (j : Job). j.memory) goes jobs there placed_there in
      let disk : sum_by (λ j. j.disk) jobs ≤ sum_by (λ s. sum_by (λ j. j.disk) (filter (λ j. goes j s) jobs)) there =
      spread (λ (j : Job). j.disk) goes jobs there placed_there in
      let slots : sum_by (λ j. 1) jobs ≤ sum_by (λ s. sum_by (λ j. 1) (filter (λ j. goes j s) jobs)) there =
      spread (λ (j : Job). 1) goes jobs there placed_there in
      let free_memory : sum_by (λ s. sum_by (λ j. j.memory) (filter (λ j. goes j s) jobs)) there
      ≤ sum_by (λ s. s.free.memory) there =
      sum_by-at_most (λ (s : Stand). sum_by (λ (j : Job). j.memory) (filter (λ j. goes j s) jobs))
      (λ (s : Stand). s.free.memory) there (λ s i. (within_there s i).memory) in
      let free_disk : sum_by (λ s. sum_by (λ j. j.disk) (filter (λ j. goes j s) jobs)) there
      ≤ sum_by (λ s. s.free.disk) there =
      sum_by-at_most (λ (s : Stand). sum_by (λ (j : Job). j.disk) (filter (λ j. goes j s) jobs))
      (λ (s : Stand). s.free.disk) there (λ s i. (within_there s i).disk) in
      let free_slots : sum_by (λ s. sum_by (λ j. 1) (filter (λ j. goes j s) jobs)) there
      ≤ sum_by (λ s. s.free.containers) there =
      sum_by-at_most (λ (s : Stand). sum_by (λ (j : Job). 1) (filter (λ j. goes j s) jobs))
      (λ (s : Stand). s.free.containers) there
      (λ s i.
      let few = (within_there s i).containers in
      let all : sum_by (λ j. 1) (filter (λ j. goes j s) jobs) ≡ length (filter (λ j. goes j s) jobs) =
      sum_by-ones (λ (j : Job). 1) (filter (λ j. goes j s) jobs) (λ j k. refl) in
      omega (arith, few, all)) in
      let all : sum_by (λ j. 1) jobs ≡ length jobs = sum_by-ones (λ (j : Job). 1) jobs (λ j k. refl) in
      record {
        memory = omega (arith, memory, free_memory);
        disk = omega (arith, disk, free_disk);
        containers = omega (arith, slots, free_slots, all);
      }

  -- and no more are as large as one than the cells take of such
  pub placing_of_large : (size : Job) → size.tag ≡ tag → count_by (is_as_large size) jobs ≤ room_for size stands
  placing_of_large size is =
      let there = filter (has_tag tag) stands in
      let w : Job → ℕ = λ j. cond (is_as_large size j) 1 0 in
      let all : sum_by w jobs ≤ sum_by (λ s. sum_by w (filter (λ j. goes j s) jobs)) there =
      spread w goes jobs there placed_there in
      let each : sum_by (λ s. sum_by w (filter (λ j. goes j s) jobs)) there ≤ sum_by (λ s. share_of size s.free) there =
      sum_by-at_most (λ (s : Stand). sum_by w (filter (λ j. goes j s) jobs)) (λ (s : Stand). share_of size s.free) there
      (λ s i. large_within size (filter (λ j. goes j s) jobs) s.free (within_there s i)) in
      let room : sum_by (λ s. share_of size s.free) there ≡ room_for size stands =
      sum_by-filter (λ (s : Stand). share_of size s.free) (has_tag tag) stands
      ∙ (λ i. sum_by (λ s. cond (has_tag (sym is i) s) (share_of size s.free) 0) stands) in
      omega (arith, all, each, room)

-- the jobs for a tag have it
of_tag-own : (tag : Option (List ℕ)) (jobs : List Job) → All (λ j. j.tag ≡ tag) (of_tag tag jobs)
of_tag-own tag jobs = λ k d below. sym (same_tag tag _ (filter_passes (is_for tag) jobs k d below))

-- what is more isn't within
not_within : (asked free : Amounts) → exceeds asked free ≡ true → IsWithin asked free → ⊥
not_within asked free more h =
    let memory : Bool = ltb free.memory asked.memory in
    let disk : Bool = ltb free.disk asked.disk in
    let slots : Bool = ltb free.containers asked.containers in
    elim (or_cases memory (disk || slots) more) [
      | (inl first) ↦ omega (arith, h.memory, ltb-true free.memory asked.memory first)
      | (inr other) ↦ elim (or_cases disk slots other) [
        | (inl second) ↦ omega (arith, h.disk, ltb-true free.disk asked.disk second)
        | (inr third) ↦ omega (arith, h.containers, ltb-true free.containers asked.containers third)
      ]
    ]

pub no_placing : (stands : List Stand) (jobs : List Job) (job : Job) → is_short stands jobs job ≡ true
    → (on : JobName → List ℕ) → IsPlacing stands (of_tag job.tag jobs) on → ⊥
no_placing stands jobs job short on h =
    let own = of_tag-own job.tag jobs in
    let asked = of_tag job.tag jobs in
    let free = free_in_all (filter (has_tag job.tag) stands) in
    elim (or_cases (ltb (room_for job stands) (as_large job jobs)) (exceeds (sums asked) free) short) [
      | (inl large) ↦
          let few : as_large job jobs ≤ room_for job stands = placing_of_large job.tag stands asked on h own job refl in
          omega (arith, few, ltb-true (room_for job stands) (as_large job jobs) large)
      | (inr more) ↦ not_within (sums asked) free more (placing_within job.tag stands asked on h own)
    ]

-- what passes two tests adds up to no more than what passes the second
part_of : (f : Job → ℕ) (p q : Job → Bool) (jobs : List Job)
    → sum_by f (filter q (filter p jobs)) ≤ sum_by f (filter q jobs)
part_of f p q jobs =
    let both : sum_by f (filter q (filter p jobs)) ≡ sum_by (λ j. cond (p j) (cond (q j) (f j) 0) 0) jobs =
    sum_by-filter f q (filter p jobs) ∙ sum_by-filter (λ j. cond (q j) (f j) 0) p jobs in
    let one : sum_by f (filter q jobs) ≡ sum_by (λ j. cond (q j) (f j) 0) jobs = sum_by-filter f q jobs in
    let less : sum_by (λ j. cond (p j) (cond (q j) (f j) 0) 0) jobs ≤ sum_by (λ j. cond (q j) (f j) 0) jobs =
    sum_by-at_most (λ j. cond (p j) (cond (q j) (f j) 0) 0) (λ j. cond (q j) (f j) 0) jobs
    (λ j i. at_most_it (p j) (cond (q j) (f j) 0)) in
    omega (arith, both, one, less)
  where
    at_most_it : (b : Bool) (n : ℕ) → cond b n 0 ≤ n
    at_most_it true n = omega arith
    at_most_it false n = omega arith

-- a placing is one of each part of its jobs
placing_of_part : (stands : List Stand) (jobs : List Job) (p : Job → Bool) (on : JobName → List ℕ)
    → IsPlacing stands jobs on → IsPlacing stands (filter p jobs) on
placing_of_part stands jobs p on h = record {
  tags = All-filter p (λ j. (s : Stand) × Contains stands s × (s.cell ≡ on j.job) × (s.tag ≡ j.tag)) jobs h.tags;
  within = λ k d below.
      let s : Stand = get_or stands k d in
      let q : Job → Bool = λ j. same_name (on j.job) s.cell in
      let whole = h.within k d below in
      let some : sum_by (λ j. 1) (filter q (filter p jobs)) ≡ length (filter q (filter p jobs)) =
      sum_by-ones (λ (j : Job). 1) (filter q (filter p jobs)) (λ j i. refl) in
      let all : sum_by (λ j. 1) (filter q jobs) ≡ length (filter q jobs) =
      sum_by-ones (λ (j : Job). 1) (filter q jobs) (λ j i. refl) in
      record {
        memory = omega (arith, part_of (λ (j : Job). j.memory) p q jobs, whole.memory);
        disk = omega (arith, part_of (λ (j : Job). j.disk) p q jobs, whole.disk);
        containers = omega (arith, part_of (λ (j : Job). 1) p q jobs, whole.containers, some, all);
      };
}

pub no_placing_of_all : (stands : List Stand) (jobs : List Job) (job : Job) → is_short stands jobs job ≡ true
    → (on : JobName → List ℕ) → IsPlacing stands jobs on → ⊥
no_placing_of_all stands jobs job short on h =
    no_placing stands jobs job short on (placing_of_part stands jobs (is_for job.tag) on h)

pub no_placing_has_more : (size : Job) (stands : List Stand) (jobs : List Job) → All (IsAlike size) jobs
    → (on : JobName → List ℕ) → IsPlacing stands jobs on → length jobs ≤ room_for size stands
no_placing_has_more size stands jobs alike on h =
    let few : count_by (is_as_large size) jobs ≤ room_for size stands =
    placing_of_large size.tag stands jobs on h (λ k d below. (alike k d below).tag) size refl in
    let all : count_by (is_as_large size) jobs ≡ length jobs =
    sum_by-ones (λ (j : Job). cond (is_as_large size j) 1 0) jobs
    (λ j i. ap (λ b. cond b 1 0) (large j (All-contains (IsAlike size) jobs j alike i))) in
    omega (arith, few, all)
  where
    large : (j : Job) → IsAlike size j → is_as_large size j ≡ true
    large j e = and_from _ _ (le-leb size.memory j.memory (omega (arith, e.memory)))
        (le-leb size.disk j.disk (omega (arith, e.disk)))
