-- On how many cells an instance stands after a step.
use Rattle.std.proofs.Common.{◌≡◌, ℕ, ◌+◌, Bool, true, false, cond, not, ◌&&◌, List, [], ◌∷◌, ◌++◌, map, filter, refl, sym, ap, ◌∙◌, arith}
use Rattle.std.specs.List.{All, count_by, filter_map, flat_map, sum_by}
use Rattle.std.proofs.lemmas.List.{map-append}
use Rattle.std.proofs.lemmas.List.Elements.{All-weaker, filter-append, filter_map-append}
use Rattle.std.proofs.lemmas.List.Folds.{fold-map}
use Rattle.std.proofs.lemmas.List.Sums.{sum_by-append, sum_by-cons}
use Rattle.diego_names.specs.declared.key.Key.{Key}
use Rattle.cell_records.specs.declared.answer.Answer.{Answer}
use Rattle.cell_records.specs.declared.container.Container.{Container}
use Rattle.cell_records.specs.declared.job.Job.{Job}
use Rattle.cell_records.specs.declared.job_name.JobName.{JobName}
use Rattle.cell_records.specs.declared.job_name.JobName.TheVariants.{Lrp, Task}
use Rattle.auctioneer.specs.Stands.{has_ended, jobs_of}
use Rattle.room_facts.proofs.Lists.{sum_by-filter, sum_by-plus, sum_by-same}
use Rattle.what_if.specs.Plans.{jobs_of_loss, plan}
use Rattle.what_if.specs.Stays.{instance_in, is_lost, is_open, open_cells, same_key, silent_stays, stay_at, stays_at, stays_on}
use Rattle.what_if.specs.declared.site.Site.{Site}
use Rattle.what_if.specs.declared.site.Stay.{Stay}
use Rattle.cell_drains.specs.Laws.{copies, is_instance, times_in}
use Rattle.cell_drains.specs.Steps.{after_batch, after_step, emptied, job_container, jobs_on, with_jobs}
use Rattle.cell_drains.proofs.Sums.{count-flat_map, filter_all}

-- how often the instance stands among these
abbrev pub there : Key → List Stay → ℕ
there key ss = count_by (λ s. same_key s.key key) ss

both : (key : Key) (xs ys : List Stay) → there key (xs ++ ys) ≡ there key xs + there key ys
both key xs ys = sum_by-append (λ (s : Stay). cond (same_key s.key key) 1 0) xs ys

-- the jobs of containers
jobs-append : (xs ys : List Container) → jobs_of (xs ++ ys) ≡ jobs_of xs ++ jobs_of ys
jobs-append xs ys =
    ap (map (λ (c : Container). c.job)) (filter-append (λ (c : Container). not (has_ended c.state)) xs ys)
    ∙ map-append (λ (c : Container). c.job) (filter (λ (c : Container). not (has_ended c.state)) xs)
    (filter (λ (c : Container). not (has_ended c.state)) ys)

jobs-of_containers : (js : List Job) → jobs_of (map job_container js) ≡ map (λ j. j.job) js
jobs-of_containers [] = refl
jobs-of_containers (j ∷ js) = ap (λ (ns : List JobName). j.job ∷ ns) (jobs-of_containers js)

nothing_first : (n : ℕ) → n ≡ 0 + n
nothing_first n = omega arith

-- the instances among jobs on a cell
module _ (cell zone : List ℕ) (key : Key) where
  at-append : (xs ys : List JobName) → stays_at cell zone (xs ++ ys) ≡ stays_at cell zone xs ++ stays_at cell zone ys
  at-append xs ys =
      ap (map (stay_at cell zone)) (filter_map-append instance_in xs ys)
      ∙ map-append (stay_at cell zone) (filter_map instance_in xs) (filter_map instance_in ys)

  one_there : (name : JobName) (rest : List JobName) → there key (stays_at cell zone (name ∷ rest))
      ≡ cond (is_instance key name) 1 0 + there key (stays_at cell zone rest)
  one_there (Lrp k) rest = sum_by-cons (λ (s : Stay). cond (same_key s.key key) 1 0) (stay_at cell zone k)
      (stays_at cell zone rest)
  one_there (Task t) rest = nothing_first (there key (stays_at cell zone rest))

  there-of_jobs : (js : List Job) → there key (stays_at cell zone (map (λ j. j.job) js)) ≡ times_in key js
  there-of_jobs [] = refl
  there-of_jobs (j ∷ js) =
      one_there j.job (map (λ j. j.job) js)
      ∙ ap (λ (n : ℕ). cond (is_instance key j.job) 1 0 + n) (there-of_jobs js)
      ∙ sym (sum_by-cons (λ (i : Job). cond (is_instance key i.job) 1 0) j js)

-- how often it stands on a cell
abbrev held : Key → Answer → ℕ
held key c = there key (stays_on c)

held_with : (key : Key) (js : List Job) (c : Answer) → held key (with_jobs js c) ≡ held key c + times_in key js
held_with key js c =
    ap (λ (ns : List JobName). there key (stays_at c.cell c.zone ns))
    (jobs-append c.containers (map job_container js) ∙ ap (λ (ns : List JobName). jobs_of c.containers ++ ns)
    (jobs-of_containers js))
    ∙ ap (there key) (at-append c.cell c.zone key (jobs_of c.containers) (map (λ j. j.job) js))
    ∙ both key (stays_at c.cell c.zone (jobs_of c.containers)) (stays_at c.cell c.zone (map (λ j. j.job) js))
    ∙ ap (λ (n : ℕ). held key c + n) (there-of_jobs c.cell c.zone key js)

-- a cell after a step that puts these jobs on it
abbrev after_with : List (List ℕ) → List Job → Answer → Answer
after_with batch js c = cond (is_lost batch c.cell) (emptied c) (with_jobs js c)

-- how often it stands there, where the cell is open
abbrev held_open : Key → List (List ℕ) → Answer → ℕ
held_open key lost c = cond (is_open lost c) (held key c) 0

open_with : (key : Key) (js : List Job) (c : Answer) (draining : Bool)
    → cond (not draining) (held key (with_jobs js c)) 0 ≡ cond (not draining) (held key c) 0 + cond (not draining)
    (times_in key js) 0
open_with key js c true = refl
open_with key js c false = held_with key js c

one_cell : (key : Key) (batch : List (List ℕ)) (js : List Job) (c : Answer)
    → held_open key [] (after_with batch js c) ≡ held_open key batch c + cond (is_open batch c) (times_in key js) 0
one_cell key batch js c =
    elim (is_lost batch c.cell) as (λ b. held_open key [] (cond b (emptied c) (with_jobs js c))
    ≡ cond (not b && not c.evacuating) (held key c) 0 + cond (not b && not c.evacuating) (times_in key js) 0) [
      | true ↦ refl
      | false ↦ open_with key js c c.evacuating
    ]

-- where it stands on cells that told their state
on_cells : (key : Key) (site : Site) (lost : List (List ℕ))
    → there key (flat_map stays_on (open_cells site lost)) ≡ sum_by (held_open key lost) site.cells
on_cells key site lost =
    count-flat_map (λ (s : Stay). same_key s.key key) stays_on (open_cells site lost) ∙ sum_by-filter (held key)
    (is_open lost) site.cells

module _ (site : Site) (batch : List (List ℕ)) (key : Key) where
  abbrev on_it : Answer → List Job
  on_it c = jobs_on c.cell (jobs_of_loss site batch) (plan site batch)

  -- how often a step puts the instance on a cell
  abbrev pub put_on : ℕ
  put_on = sum_by (λ c. times_in key (on_it c)) (open_cells site batch)

  after_cells : there key (flat_map stays_on (open_cells (after_step site batch) []))
      ≡ there key (flat_map stays_on (open_cells site batch)) + put_on
  after_cells =
      on_cells key (after_step site batch) []
      ∙ fold-map (λ (n : ℕ) (c : Answer). n + held_open key [] c)
      (λ (c : Answer). after_batch batch (jobs_of_loss site batch) (plan site batch) c) 0 site.cells
      ∙ sum_by-same (λ (c : Answer). held_open key [] (after_with batch (on_it c) c))
      (λ c. held_open key batch c + cond (is_open batch c) (times_in key (on_it c)) 0) site.cells
      (λ c inside. one_cell key batch (on_it c) c)
      ∙ sum_by-plus (held_open key batch) (λ c. cond (is_open batch c) (times_in key (on_it c)) 0) site.cells
      ∙ ap (λ (n : ℕ). n + sum_by (λ c. cond (is_open batch c) (times_in key (on_it c)) 0) site.cells)
      (sym (on_cells key site batch))
      ∙ ap (λ (n : ℕ). there key (flat_map stays_on (open_cells site batch)) + n)
      (sym (sum_by-filter (λ c. times_in key (on_it c)) (is_open batch) site.cells))

  -- a step has no silent cell, so what stands on such cells stays
  same_silent : All (λ s. is_lost batch s.cell ≡ false) site.silent_stays
      → silent_stays (after_step site batch) [] ≡ silent_stays site batch
  same_silent telling =
      filter_all (λ (s : Stay). not (is_lost [] s.cell)) site.silent_stays (λ k d lt. refl)
      ∙ sym (filter_all (λ (s : Stay). not (is_lost batch s.cell)) site.silent_stays
      (All-weaker (λ (s : Stay). is_lost batch s.cell ≡ false) (λ s. not (is_lost batch s.cell) ≡ true)
      (λ s e. ap not e) site.silent_stays telling))

  pub copies-after_step : All (λ s. is_lost batch s.cell ≡ false) site.silent_stays
      → copies (after_step site batch) [] key ≡ copies site batch key + put_on
  copies-after_step telling =
      let before : copies site batch key ≡ there key (flat_map stays_on (open_cells site batch)) + there key
      (silent_stays site batch) = both key (flat_map stays_on (open_cells site batch)) (silent_stays site batch) in
      let then : copies (after_step site batch) [] key ≡ there key
      (flat_map stays_on (open_cells (after_step site batch) [])) + there key
      (silent_stays (after_step site batch) []) = both key
      (flat_map stays_on (open_cells (after_step site batch) [])) (silent_stays (after_step site batch) []) in
      let silent : there key (silent_stays (after_step site batch) []) ≡ there key (silent_stays site batch) =
      ap (there key) (same_silent telling) in
      omega (arith, before, then, silent, after_cells)
