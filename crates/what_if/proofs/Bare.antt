-- Room doesn't depend on which jobs the cells have.
use Rattle.std.proofs.Common.{◌≡◌, ℕ, ◌+◌, Bool, true, false, cond, ◌||◌, not, nat_lt, List, [], ◌∷◌, map, filter, fold, Option, refl, ap, ◌∙◌}
use Rattle.std.specs.Prelude.{sum_by}
use Rattle.std.specs.List.{list_any}
use Rattle.cell_records.specs.declared.job.Job.{Job}
use Rattle.cell_records.specs.declared.amounts.Amounts.{Amounts}
use Rattle.auctioneer.specs.Auction.{stands_with}
use Rattle.auctioneer.specs.Least.{best}
use Rattle.auctioneer.specs.declared.stand.Stand.{Stand}
use Rattle.forecast_records.specs.declared.unplaced.Unplaced.{Unplaced}
use Rattle.room_facts.specs.Lacks.{has_tag}
use Rattle.room_facts.specs.Reasons.{reasons_of, most_free}
use Rattle.room_facts.specs.Rooms.{as_large, exceeds, free_in_all, is_short, of_tag, room_for, room_on, sums}
use Rattle.what_if.specs.Holders.{unplaced_by, IsHolders}
use Rattle.what_if.specs.Plans.{if_none, left_over, unplaced_at, without_jobs}
use Rattle.what_if.specs.Stays.{stays}
use Rattle.what_if.specs.Verdicts.{short_if, verdict_of}
use Rattle.what_if.specs.Waiting.{is_displaced}
use Rattle.what_if.specs.declared.site.Site.{Site}
use Rattle.what_if.specs.declared.standing.Holders.{Holders}
use Rattle.what_if.proofs.Holding.{displaced-by_holders}

-- a fold over what is made of each
fold_map : {A B C : Type 0} (h : C → B → C) (g : A → B) (a : C) (xs : List A)
    → fold h a (map g xs) ≡ fold (λ c x. h c (g x)) a xs
fold_map h g a [] = refl
fold_map h g a (x ∷ xs) = fold_map h g (h a (g x)) xs

pub room_for-bare : (size : Job) (ss : List Stand) → room_for size (map without_jobs ss) ≡ room_for size ss
room_for-bare size ss = fold_map (λ (a : ℕ) (s : Stand). a + room_on size s) without_jobs 0 ss

-- the cells of the tag
pub of_tag-bare : (tag : Option (List ℕ)) (ss : List Stand)
    → filter (has_tag tag) (map without_jobs ss) ≡ map without_jobs (filter (has_tag tag) ss)
of_tag-bare tag [] = refl
of_tag-bare tag (s ∷ ss) =
    ap (λ (rest : List Stand). cond (has_tag tag s) (without_jobs s ∷ rest) rest) (of_tag-bare tag ss)
    ∙ either (has_tag tag s)
  where
    either : (b : Bool) → cond b (without_jobs s ∷ map without_jobs (filter (has_tag tag) ss))
        (map without_jobs (filter (has_tag tag) ss)) ≡ map without_jobs
        (cond b (s ∷ filter (has_tag tag) ss) (filter (has_tag tag) ss))
    either true = refl
    either false = refl

-- what such cells have free
sum-bare : (f : Amounts → ℕ) (ss : List Stand) → sum_by (λ (s : Stand). f s.free) (map without_jobs ss)
    ≡ sum_by (λ (s : Stand). f s.free) ss
sum-bare f ss = fold_map (λ (a : ℕ) (s : Stand). a + f s.free) without_jobs 0 ss

free-bare : (ss : List Stand) → free_in_all (map without_jobs ss) ≡ free_in_all ss
free-bare ss =
    ap (λ (n : ℕ). (let a : Amounts = record {
      memory = n;
      disk =
          sum_by (λ (s : Stand). s.free.disk) (map without_jobs ss);
      containers =
          sum_by (λ (s : Stand). s.free.containers) (map without_jobs ss);
    } in a))
    (sum-bare (λ (a : Amounts). a.memory) ss)
    ∙ ap (λ (n : ℕ). (let a : Amounts = record {
      memory = sum_by (λ (s : Stand). s.free.memory) ss;
      disk =
          n;
      containers = sum_by (λ (s : Stand). s.free.containers) (map without_jobs ss);
    } in a))
    (sum-bare (λ (a : Amounts). a.disk) ss)
    ∙ ap (λ (n : ℕ). (let a : Amounts = record {
      memory = sum_by (λ (s : Stand). s.free.memory) ss;
      disk =
          sum_by (λ (s : Stand). s.free.disk) ss;
      containers = n;
    } in a)) (sum-bare (λ (a : Amounts). a.containers) ss)

pub free_of_tag-bare : (tag : Option (List ℕ)) (ss : List Stand)
    → free_in_all (filter (has_tag tag) (map without_jobs ss)) ≡ free_in_all (filter (has_tag tag) ss)
free_of_tag-bare tag ss = ap free_in_all (of_tag-bare tag ss) ∙ free-bare (filter (has_tag tag) ss)

pub is_short-bare : (ss : List Stand) (jobs : List Job) (job : Job)
    → is_short (map without_jobs ss) jobs job ≡ is_short ss jobs job
is_short-bare ss jobs job =
    ap (λ (n : ℕ). nat_lt n (as_large job jobs) || exceeds (sums (of_tag job.tag jobs))
    (free_in_all (filter (has_tag job.tag) (map without_jobs ss)))) (room_for-bare job ss)
    ∙ ap (λ (a : Amounts). nat_lt (room_for job ss) (as_large job jobs) || exceeds (sums (of_tag job.tag jobs)) a)
    (free_of_tag-bare job.tag ss)

-- tests that agree find the same
any_agree : {X : Type 0} (p q : X → Bool) → ((x : X) → p x ≡ q x) → (xs : List X) → list_any p xs ≡ list_any q xs
any_agree p q same [] = refl
any_agree p q same (x ∷ xs) = ap (λ (b : Bool). b || list_any p xs) (same x) ∙ ap (λ (b : Bool). q x || b)
    (any_agree p q same xs)

pub verdict_of-bare : (ss : List Stand) (jobs left : List Job)
    → verdict_of (map without_jobs ss) jobs left ≡ verdict_of ss jobs left
verdict_of-bare ss jobs [] = refl
verdict_of-bare ss jobs (job ∷ left) = ap short_if (any_agree (is_short (map without_jobs ss) jobs) (is_short ss jobs)
    (is_short-bare ss jobs) (job ∷ left))

-- what is told alike of each job is told alike of all
pub left_agree : {X : Type 0} (f g : List Stand → Job → X) → ((turn : List Stand) (job : Job) → f turn job ≡ g turn job)
    → (ss : List Stand) (jobs : List Job) → left_over f ss jobs ≡ left_over g ss jobs
left_agree f g same ss [] = refl
left_agree {X} f g same ss (job ∷ jobs) =
    ap (λ (x : X). if_none (best ss job) x (left_over f (stands_with job (best ss job) ss) jobs)) (same ss job)
    ∙ ap (λ (xs : List X). if_none (best ss job) (g ss job) xs)
    (left_agree f g same (stands_with job (best ss job) ss) jobs)

-- why a job has no room, with these two things told of it
abbrev told_with : Bool → ℕ → List Job → List Stand → Job → Unplaced
told_with waited room jobs turn job = record {
  job = job.job;
  memory = job.memory;
  disk = job.disk;
  tag = job.tag;
  waited = waited;
  reasons = reasons_of job turn;
  most_free = most_free job.tag turn;
  as_large = as_large job jobs;
  room_for = room;
}

pub unplaced-by_holders : (site : Site) (h : Holders) → IsHolders (stays site []) h
    → (ss : List Stand) (jobs : List Job) (turn : List Stand) (job : Job)
    → unplaced_by h (map without_jobs ss) jobs turn job ≡ unplaced_at (λ j. not (is_displaced site j)) ss jobs turn job
unplaced-by_holders site h holds ss jobs turn job =
    ap (λ (b : Bool). told_with (not b) (room_for job (map without_jobs ss)) jobs turn job)
    (displaced-by_holders site h holds job.job)
    ∙ ap (λ (n : ℕ). told_with (not (is_displaced site job.job)) n jobs turn job) (room_for-bare job ss)
