-- How often jobs are placed, as it is counted.
use Rattle.std.proofs.Common.{◌≡◌, ℕ, ◌+◌, ◌<◌, ◌≤◌, Bool, true, false, ◌&&◌, ◌==◌, cond, List, length, take, fold, get_or, max, Option, Some, refl, sym, ap, ◌∙◌, arith}
use Rattle.std.specs.Option.{unwrap_or}
use Rattle.std.proofs.lemmas.Bool.{and_parts}
use Rattle.std.proofs.lemmas.Bool.Decides.{Decides-eqb}
use Rattle.std.proofs.lemmas.List.{length-take-le}
use Rattle.std.proofs.lemmas.List.Sums.{count_by-le-length, sum_by_more}
use Rattle.diego_names.specs.declared.key.Key.{Key}
use Rattle.cell_records.specs.declared.job_name.JobName.{JobName}
use Rattle.cell_records.specs.declared.job_name.JobName.TheVariants.{Lrp, Task}
use Rattle.auctioneer.specs.Stands.{same_name}
use Rattle.what_if.specs.Stays.{same_key}
use Rattle.what_if.proofs.Names.{name_from_test}
use Rattle.cell_drains.specs.Moves.{as_counted, same_counted, same_job, times_moved}
use Rattle.cell_drains.specs.declared.moves.Counted.{Counted}

-- tests of keys and of jobs say whether two are one
pub key_from_test : (a b : Key) → same_key a b ≡ true → a ≡ b
key_from_test a b e =
    let parts = and_parts (same_name a.process b.process) (a.index == b.index) e in
    λ i. record {
      process = name_from_test a.process b.process parts.0 i;
      index =
          (Decides-eqb a.index b.index).0 parts.1 i;
    }

pub job_from_test : (a b : JobName) → same_job a b ≡ true → a ≡ b
job_from_test (Lrp a) (Lrp b) e = ap Lrp (key_from_test a b e)
job_from_test (Lrp a) (Task b) e = cc
job_from_test (Task a) (Lrp b) e = cc
job_from_test (Task a) (Task b) e = ap Task (name_from_test a b e)

-- jobs as they are counted are one where the jobs are
and_true : (b : Bool) → (b && true) ≡ b
and_true true = refl
and_true false = refl

counted_same : (a b : JobName) → same_counted (as_counted a) (as_counted b) ≡ same_job a b
counted_same (Lrp a) (Lrp b) = refl
counted_same (Lrp a) (Task b) = refl
counted_same (Task a) (Lrp b) = refl
counted_same (Task a) (Task b) = and_true (same_name a b)

nothing_more : (n : ℕ) → n ≡ n + 0
nothing_more n = omega arith

-- a job that is counted once more
one_more : (at : Counted → Option ℕ) (job other : JobName)
    → unwrap_or (cond (same_counted (as_counted job) (as_counted other)) (Some (unwrap_or (at (as_counted job)) 0 + 1))
    (at (as_counted other))) 0 ≡ unwrap_or (at (as_counted other)) 0 + cond (same_job job other) 1 0
one_more at job other =
    ap (λ (b : Bool). unwrap_or (cond b (Some (unwrap_or (at (as_counted job)) 0 + 1)) (at (as_counted other))) 0)
    (counted_same job other)
    ∙ elim (same_job job other) as (λ b. same_job job other ≡ b
    → unwrap_or (cond b (Some (unwrap_or (at (as_counted job)) 0 + 1)) (at (as_counted other))) 0
    ≡ unwrap_or (at (as_counted other)) 0 + cond b 1 0) [
      | true ↦ λ e. ap (λ (j : JobName). unwrap_or (at (as_counted j)) 0 + 1) (job_from_test job other e)
      | false ↦ λ e. nothing_more (unwrap_or (at (as_counted other)) 0)
    ] refl

-- the same of what was looked up and put there
pub counted_more : (old new : Counted → Option ℕ) (job other : JobName) (count : ℕ) (key : Counted)
    → count ≡ unwrap_or (old (as_counted job)) 0 → key ≡ as_counted job
    → new (as_counted other) ≡ cond (same_counted key (as_counted other)) (Some (count + 1)) (old (as_counted other))
    → unwrap_or (new (as_counted other)) 0 ≡ unwrap_or (old (as_counted other)) 0 + cond (same_job job other) 1 0
counted_more old new job other count key counts is put =
    ap (λ (o : Option ℕ). unwrap_or o 0) put
    ∙ ap (λ (k : Counted). unwrap_or (cond (same_counted k (as_counted other)) (Some (count + 1))
    (old (as_counted other))) 0) is
    ∙ ap (λ (n : ℕ). unwrap_or (cond (same_counted (as_counted job) (as_counted other)) (Some (n + 1))
    (old (as_counted other))) 0) counts
    ∙ one_more old job other

-- among the jobs so far it is there no more often than there are jobs
pub few_times : (jobs : List JobName) (i : ℕ) (job : JobName) → i ≤ length jobs → times_moved (take i jobs) job ≤ i
few_times jobs i job within = omega (
  arith,
  count_by-le-length (λ other. same_job other job) (take i jobs),
  length-take-le i jobs within,
)

pub times_next : (jobs : List JobName) (i : ℕ) (j : JobName) → i < length jobs → j ≡ get_or jobs i j → (job : JobName)
    → times_moved (take (i + 1) jobs) job ≡ times_moved (take i jobs) job + cond (same_job j job) 1 0
times_next jobs i j lt is job =
    sum_by_more (λ other. cond (same_job other job) 1 0) jobs i j lt
    ∙ ap (λ (k : JobName). times_moved (take i jobs) job + cond (same_job k job) 1 0) (sym is)

-- the most by counts that agree
pub most_same : (f g : JobName → ℕ) → ((job : JobName) → f job ≡ g job) → (jobs : List JobName)
    → fold (λ m job. max m (f job)) 0 jobs ≡ fold (λ m job. max m (g job)) 0 jobs
most_same f g same jobs = ap (λ (h : JobName → ℕ). fold (λ m job. max m (h job)) 0 jobs) (λ i job. same job i)
