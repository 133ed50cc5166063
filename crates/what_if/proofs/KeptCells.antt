-- The containers of processes of which nothing waits make no difference to an auction.
use Rattle.std.proofs.Common.{◌≡◌, ◌≢◌, ℕ, zero, suc, ◌+◌, ◌≤◌, Bool, true, false, cond, ◌||◌, not, List, [], ◌∷◌, length, map, filter, Option, Some, None, refl, sym, ap, subst, ◌∙◌, arith}
use Rattle.std.specs.HashSet.{contains, HashSet}
use Rattle.std.specs.List.{All, AllPairs, Contains, cons_option, count_by}
use Rattle.std.proofs.lemmas.Bool.{both_ways, false_from_ne_true, or_left, or_right}
use Rattle.std.proofs.lemmas.List.{length-map}
use Rattle.std.proofs.lemmas.List.Elements.{All-contains_itself, All-map, All-weaker}
use Rattle.std.proofs.lemmas.List.Sums.{sum_by-cons}
use Rattle.cell_records.specs.declared.answer.Answer.{Answer}
use Rattle.cell_records.specs.declared.container.Container.{Container}
use Rattle.cell_records.specs.declared.job.Job.{Job}
use Rattle.cell_records.specs.declared.job_name.JobName.{JobName}
use Rattle.cell_records.specs.declared.job_name.JobName.TheVariants.{Lrp, Task}
use Rattle.auctioneer.specs.Asked.{AreAnswers, IsSoundAnswer}
use Rattle.auctioneer.specs.Stands.{has_ended, is_of, jobs_of, same_name, stand_of, stands_of}
use Rattle.auctioneer.specs.declared.stand.Stand.{Stand}
use Rattle.what_if.specs.Kept.{is_kept, kept_cell, process_in, processes_of}
use Rattle.what_if.specs.Stays.{is_lost}
use Rattle.what_if.proofs.AlikeCells.{table_alike, AreAlike, IsReadAlike}
use Rattle.what_if.proofs.Lists.{shorter}
use Rattle.what_if.proofs.Names.{name_from_test, test_from_name}

-- ---- the processes of the jobs

-- the process of an instance is among these; a task has none
abbrev IsNamed : List (List ℕ) → JobName → Type 0
IsNamed names (Lrp key) = is_lost names key.process ≡ true
IsNamed names (Task name) = Unit {0}

named_here : (job : JobName) (rest : List (List ℕ)) → IsNamed (cons_option (process_in job) rest) job
named_here (Lrp key) rest =
    or_left (same_name key.process key.process) (is_lost rest key.process) (test_from_name key.process key.process refl)
named_here (Task name) rest = tt

named_behind : (job : JobName) (o : Option (List ℕ)) (rest : List (List ℕ)) → IsNamed rest job
    → IsNamed (cons_option o rest) job
named_behind (Lrp key) None rest h = h
named_behind (Lrp key) (Some x) rest h = or_right (same_name x key.process) (is_lost rest key.process) h
named_behind (Task name) o rest h = tt

named_in : (jobs : List Job) (j : Job) → Contains jobs j → IsNamed (processes_of jobs) j.job
named_in [] j (k, lt, at) = absurd (omega arith)
named_in (x ∷ xs) j (zero, lt, at) =
    subst (λ (z : Job). IsNamed (processes_of (x ∷ xs)) z.job) at (named_here x.job (processes_of xs))
named_in (x ∷ xs) j (suc k, lt, at) =
    named_behind j.job (process_in x.job) (processes_of xs) (named_in xs j (k, omega arith, at))

-- ---- the containers that are kept

from_zero : (n : ℕ) → 0 + n ≡ n
from_zero n = omega arith

module _ {S : Type 0} (set : HashSet (List ℕ) S) where
  -- all instances of the job's process are kept
  abbrev pub IsCovered : JobName → Type 0
  IsCovered job = (other : JobName) → is_of job other ≡ true → is_kept set other ≡ true

  covered : (names : List (List ℕ)) → ((name : List ℕ) → contains same_name set name ≡ is_lost names name)
      → (job : JobName) → IsNamed names job → IsCovered job
  covered names is (Task name) h other e = absurd cc
  covered names is (Lrp a) h (Task b) e = absurd cc
  covered names is (Lrp a) h (Lrp b) e =
      is b.process ∙ subst (λ (n : List ℕ). is_lost names n ≡ true) (name_from_test a.process b.process e) h

  -- where the set has the processes of the jobs, all instances of these are kept
  pub all_covered : (jobs : List Job)
      → ((name : List ℕ) → contains same_name set name ≡ is_lost (processes_of jobs) name)
      → All (λ j. IsCovered j.job) jobs
  all_covered jobs is =
      All-weaker (Contains jobs) (λ j. IsCovered j.job)
      (λ j inside. covered (processes_of jobs) is j.job (named_in jobs j inside)) jobs (All-contains_itself jobs)

  abbrev kept : Container → Bool
  kept k = is_kept set k.job

  abbrev stays : Container → Bool
  stays k = not (has_ended k.state)

  kept_count : (job : JobName) → IsCovered job → (ks : List Container)
      → count_by (is_of job) (jobs_of (filter kept ks)) ≡ count_by (is_of job) (jobs_of ks)
  kept_count job cover [] = refl
  kept_count job cover (k ∷ ks) =
      let rest = kept_count job cover ks in
      let left : List Container = filter kept ks in
      let f : JobName → ℕ = λ x. cond (is_of job x) 1 0 in
      elim (is_kept set k.job) as (λ b. is_kept set k.job ≡ b
      → count_by (is_of job) (jobs_of (cond b (k ∷ left) left)) ≡ count_by (is_of job) (jobs_of (k ∷ ks))) [
        | true ↦ λ e. elim (has_ended k.state) as (λ d.
            count_by (is_of job) (map (λ (c : Container). c.job) (cond (not d) (k ∷ filter stays left)
            (filter stays left)))
            ≡ count_by (is_of job) (map (λ (c : Container). c.job) (cond (not d) (k ∷ filter stays ks)
            (filter stays ks)))) [
              | true ↦ rest
              | false ↦
                  sum_by-cons f k.job (jobs_of left)
                  ∙ ap (λ (n : ℕ). f k.job + n) rest
                  ∙ sym (sum_by-cons f k.job (jobs_of ks))
            ]
        | false ↦ λ e. elim (has_ended k.state) as (λ d. count_by (is_of job) (jobs_of left)
            ≡ count_by (is_of job) (map (λ (c : Container). c.job) (cond (not d) (k ∷ filter stays ks)
            (filter stays ks)))) [
              | true ↦ rest
              | false ↦
                  rest
                  ∙ sym (from_zero (count_by (is_of job) (jobs_of ks)))
                  ∙ sym (ap (λ (b : Bool). cond b 1 0 + count_by (is_of job) (jobs_of ks))
                  (false_from_ne_true (is_of job k.job) (λ t. both_ways (is_kept set k.job) e (cover k.job t))))
                  ∙ sym (sum_by-cons f k.job (jobs_of ks))
            ]
      ] refl

  cells_alike : (cells : List Answer)
      → AreAlike IsCovered (map stand_of (map (kept_cell set) cells)) (map stand_of cells)
  cells_alike [] = tt
  cells_alike (c ∷ cs) = (record { bare = refl; held = λ job cover. kept_count job cover c.containers }, cells_alike cs)

  -- the cells are read alike with these containers alone
  pub kept_alike : (cells : List Answer) → AreAlike IsCovered (stands_of (map (kept_cell set) cells)) (stands_of cells)
  kept_alike cells =
      table_alike IsCovered (map stand_of (map (kept_cell set) cells)) (map stand_of cells) (cells_alike cells)

  -- ---- and may be an auction's

  same_names : (cells : List Answer) → map (λ (c : Answer). c.cell) cells
      ≡ map (λ (c : Answer). c.cell) (map (kept_cell set) cells)
  same_names [] = refl
  same_names (c ∷ cs) = ap (λ (ns : List (List ℕ)). c.cell ∷ ns) (same_names cs)

  sound_kept : (c : Answer) → IsSoundAnswer c → IsSoundAnswer (kept_cell set c)
  sound_kept c h = record {
    within = h.within;
    containers = omega (arith, h.containers, shorter kept c.containers);
  }

  pub AreAnswers-kept : (cells : List Answer) → AreAnswers cells → AreAnswers (map (kept_cell set) cells)
  AreAnswers-kept cells h = record {
    few = omega (arith, h.few, length-map cells (kept_cell set));
    differ = subst (AllPairs (λ (a b : List ℕ). a ≢ b)) (same_names cells) h.differ;
    each =
        All-map IsSoundAnswer (kept_cell set) cells
        (All-weaker IsSoundAnswer (λ c. IsSoundAnswer (kept_cell set c)) sound_kept cells h.each);
  }
