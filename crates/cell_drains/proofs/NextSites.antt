-- What a step leaves may be planned for.
use Rattle.std.proofs.Common.{◌≡◌, ◌≢◌, ℕ, ◌+◌, ◌≤◌, Bool, true, false, cond, List, [], ◌∷◌, ◌++◌, length, map, filter, fold, refl, subst, arith}
use Rattle.std.specs.List.{All, Contains, list_any}
use Rattle.std.proofs.lemmas.List.{length-append, length-map}
use Rattle.std.proofs.lemmas.List.Elements.{All-contains, All-cons, All-head, All-map, All-tail, Contains-get_or}
use Rattle.std.proofs.lemmas.List.Kept.{AllPairs-cons}
use Rattle.cell_records.specs.declared.answer.Answer.{Answer}
use Rattle.cell_records.specs.declared.job.Job.{Job}
use Rattle.auctioneer.specs.Asked.{AreJobs, IsSoundAnswer}
use Rattle.auctioneer.specs.Stands.{less}
use Rattle.auctioneer.specs.declared.placement.Placement.{Placement}
use Rattle.what_if.specs.Plans.{jobs_of_loss, plan}
use Rattle.what_if.specs.Sites.{IsSite}
use Rattle.what_if.specs.Stays.{is_lost}
use Rattle.what_if.specs.Waiting.{instance_job}
use Rattle.what_if.specs.declared.site.Site.{Site}
use Rattle.what_if.specs.declared.site.Wanted.{Wanted}
use Rattle.what_if.proofs.Differing.{Differ, head-differs, tail-differs}
use Rattle.what_if.proofs.Lists.{filter_differs, shorter}
use Rattle.cell_drains.specs.Steps.{after_batch, after_step, emptied, job_container, jobs_on, leaves, with_jobs, IsLevel}
use Rattle.cell_drains.proofs.Amounts.{left_containers, within_less}
use Rattle.cell_drains.proofs.Slots.{few_on}

-- the cells keep their names
name_kept : (batch : List (List ℕ)) (js : List Job) (ps : List Placement) (c : Answer)
    → c.cell ≡ (after_batch batch js ps c).cell
name_kept batch js ps c =
    elim (is_lost batch c.cell) as (λ b. c.cell ≡ (cond b (emptied c) (with_jobs (jobs_on c.cell js ps) c)).cell)
    [ true ↦ refl | false ↦ refl ]

names_kept : (batch : List (List ℕ)) (js : List Job) (ps : List Placement) (cs : List Answer)
    → map (λ (c : Answer). c.cell) cs ≡ map (λ (c : Answer). c.cell) (map (after_batch batch js ps) cs)
names_kept batch js ps [] = refl
names_kept batch js ps (c ∷ cs) = λ i. name_kept batch js ps c i ∷ names_kept batch js ps cs i

pub cells_differ : (site : Site) (batch : List (List ℕ)) → Differ (map (λ (c : Answer). c.cell) site.cells)
    → Differ (map (λ (c : Answer). c.cell) (after_step site batch).cells)
cells_differ site batch h = subst Differ (names_kept batch (jobs_of_loss site batch) (plan site batch) site.cells) h

-- some of those behind are taken out
module _ {X A : Type 0} (f : X → A) (p : X → Bool) where
  all_thin : (P : A → Type 0) (ys : List X) → All P (map f ys) → All P (map f (filter p ys))
  all_thin P [] h = h
  all_thin P (y ∷ ys) h =
      elim (p y) as (λ b. All P (map f (cond b (y ∷ filter p ys) (filter p ys)))) [
        | true ↦ All-cons P (f y) (map f (filter p ys)) (All-head P (f y) (map f ys) h)
            (all_thin P ys (All-tail P (f y) (map f ys) h))
        | false ↦ all_thin P ys (All-tail P (f y) (map f ys) h)
      ]

  all_behind : (P : A → Type 0) (xs ys : List X) → All P (map f (xs ++ ys)) → All P (map f (xs ++ filter p ys))
  all_behind P [] ys h = all_thin P ys h
  all_behind P (x ∷ xs) ys h =
      All-cons P (f x) (map f (xs ++ filter p ys)) (All-head P (f x) (map f (xs ++ ys)) h)
      (all_behind P xs ys (All-tail P (f x) (map f (xs ++ ys)) h))

  pub differ_behind : (xs ys : List X) → Differ (map f (xs ++ ys)) → Differ (map f (xs ++ filter p ys))
  differ_behind [] ys h = filter_differs f p ys h
  differ_behind (x ∷ xs) ys h =
      AllPairs-cons (λ a b. a ≢ b) (f x) (map f (xs ++ filter p ys))
      (all_behind (λ a. f x ≢ a) xs ys (head-differs (f x) (map f (xs ++ ys)) h))
      (differ_behind xs ys (tail-differs (f x) (map f (xs ++ ys)) h))

-- no two jobs have one name, whichever instances wait
abbrev pub JobsDiffer : Site → Type 0
JobsDiffer site = (p : Wanted → Bool) → AreJobs (map instance_job (filter p site.wanted) ++ site.pending)

pub jobs_differ : (site : Site) (batch : List (List ℕ)) → JobsDiffer site → JobsDiffer (after_step site batch)
jobs_differ site batch h = λ p.
    differ_behind (λ (j : Job). j.job) (λ (j : Job). list_any (leaves j.job) (plan site batch))
    (map instance_job (filter p site.wanted)) site.pending (h p)

-- a cell with jobs for which it has containers
module _ (c : Answer) (js : List Job) (few : length js ≤ c.free.containers)
    (level : length c.containers + c.free.containers ≤ c.totals.containers) where
  as_long : length (with_jobs js c).containers ≡ length c.containers + length js
  as_long =
      let both = length-append c.containers (map job_container js) in
      omega (arith, both, length-map js job_container)

  level_with : length (with_jobs js c).containers + (fold less c.free js).containers ≤ c.totals.containers
  level_with = omega (arith, as_long, left_containers js c.free, few, level)

  sound_with : IsSoundAnswer c → IsSoundAnswer (with_jobs js c)
  sound_with h = record {
    within = within_less js c.free c.totals h.within;
    containers = omega (arith, as_long, few, level);
  }

-- and one that comes back
sound_emptied : (c : Answer) → IsSoundAnswer (emptied c)
sound_emptied c = record {
  within = record { memory = omega arith; disk = omega arith; containers = omega arith };
  containers = omega arith;
}

module _ (site : Site) (batch : List (List ℕ)) (h : IsSite site) (level : IsLevel site) where
  abbrev after : Answer → Answer
  after c = after_batch batch (jobs_of_loss site batch) (plan site batch) c

  abbrev on_it : Answer → List Job
  on_it c = jobs_on c.cell (jobs_of_loss site batch) (plan site batch)

  level_at : (c : Answer) → Contains site.cells c → length c.containers + c.free.containers ≤ c.totals.containers
  level_at c inside = All-contains (λ (a : Answer). length a.containers + a.free.containers ≤ a.totals.containers)
      site.cells c level inside

  sound_cell : (c : Answer) → Contains site.cells c → IsSoundAnswer (after c)
  sound_cell c inside =
      elim (is_lost batch c.cell) as (λ b. IsSoundAnswer (cond b (emptied c) (with_jobs (on_it c) c))) [
        | true ↦ sound_emptied c
        | false ↦ sound_with c (on_it c) (few_on site batch h c inside) (level_at c inside)
            (All-contains IsSoundAnswer site.cells c h.cells.each inside)
      ]

  level_cell : (c : Answer) → Contains site.cells c → length (after c).containers + (after c).free.containers
      ≤ (after c).totals.containers
  level_cell c inside =
      elim (is_lost batch c.cell) as (λ b. length (cond b (emptied c) (with_jobs (on_it c) c)).containers +
      (cond b (emptied c) (with_jobs (on_it c) c)).free.containers
      ≤ (cond b (emptied c) (with_jobs (on_it c) c)).totals.containers) [
        | true ↦ omega arith
        | false ↦ level_with c (on_it c) (few_on site batch h c inside) (level_at c inside)
      ]

  pub IsSite-after_step : IsSite (after_step site batch)
  IsSite-after_step = record {
    cells = record {
      few = omega (arith, h.cells.few, length-map site.cells after);
      differ = cells_differ site batch h.cells.differ;
      each = All-map IsSoundAnswer after site.cells (λ k d lt. sound_cell _ (Contains-get_or site.cells k d lt));
    };
    jobs = jobs_differ site batch h.jobs;
    few = omega (arith, h.few, shorter (λ (j : Job). list_any (leaves j.job) (plan site batch)) site.pending);
  }

  pub IsLevel-after_step : IsLevel (after_step site batch)
  IsLevel-after_step =
      All-map (λ (c : Answer). length c.containers + c.free.containers ≤ c.totals.containers) after site.cells
      (λ k d lt. level_cell _ (Contains-get_or site.cells k d lt))
