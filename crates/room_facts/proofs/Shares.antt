-- How many jobs of a size what is free holds.
use Rattle.std.proofs.Common.{◌≡◌, ℕ, ◌+◌, ◌-◌, ◌*◌, ◌/◌, ◌<◌, ◌≤◌, true, false, cond, eqb, leb, min, List, [], ◌∷◌, length, refl, sym, ap, subst, ◌∙◌, arith}
use Rattle.std.specs.List.{sum_by, count_by}
use Rattle.std.proofs.Math.Nat.{div-eq-sub-div, div-eq_of_lt}
use Rattle.std.proofs.lemmas.Bool.{and_parts, eqb-true, eqb-false, leb-true}
use Rattle.std.proofs.lemmas.List.Sums.{sum_by-cons, count_by-le-length}
use Rattle.std.proofs.lemmas.Nat.{le-div}
use Rattle.cell_records.specs.declared.amounts.Amounts.{Amounts}
use Rattle.cell_records.specs.declared.job.Job.{Job}
use Rattle.auction_scoring.specs.Fits.{IsWithin}
use Rattle.auctioneer.specs.Stands.{less}
use Rattle.room_facts.specs.Rooms.{at_most, share_of, is_as_large, sums}

-- what is at most so many, and of that size within what is free
pub at_most-holds : (k most free size : ℕ) → k ≤ most → k * size ≤ free → k ≤ at_most most free size
at_most-holds k most free size below fits =
    elim (eqb size 0) as (λ b. eqb size 0 ≡ b → k ≤ cond b most (min most (free / size))) [
      | true ↦ λ e. below
      | false ↦ λ e.
          let some : 0 < size = positive size (eqb-false size 0 e) in
          let parts : k ≤ free / size = le-div k free size some fits in
          omega arith
    ] refl
  where
    positive : (n : ℕ) → (n ≡ 0 → ⊥) → 0 < n
    positive n h = omega arith

pub at_most-le : (most free size : ℕ) → at_most most free size ≤ most
at_most-le most free size =
    elim (eqb size 0) as (λ b. cond b most (min most (free / size)) ≤ most) [ true ↦ omega arith | false ↦ omega arith ]

-- too little of an amount holds none
pub at_most-short : (most free size : ℕ) → free < size → at_most most free size ≡ 0
at_most-short most free size short =
    elim (eqb size 0) as (λ b. eqb size 0 ≡ b → cond b most (min most (free / size)) ≡ 0) [
      | true ↦ λ e. absurd (omega (arith, eqb-true size 0 e))
      | false ↦ λ e. let none : free / size ≡ 0 = div-eq_of_lt short in omega arith
    ] refl

-- one taken leaves room for one less
at_most-less : (most free size : ℕ) → 0 < most → size ≤ free
    → at_most (most - 1) (free - size) size + 1 ≡ at_most most free size
at_most-less most free size some fits =
    elim (eqb size 0) as (λ b. eqb size 0 ≡ b → cond b (most - 1) (min (most - 1) ((free - size) / size)) + 1
    ≡ cond b most (min most (free / size))) [
      | true ↦ λ e. omega arith
      | false ↦ λ e.
          let pos : 0 < size = positive size (eqb-false size 0 e) in
          let parts : free / size ≡ (free - size) / size + 1 = div-eq-sub-div pos fits in
          one_less most (free / size) ((free - size) / size) some parts
    ] refl
  where
    positive : (n : ℕ) → (n ≡ 0 → ⊥) → 0 < n
    positive n h = omega arith

    one_less : (m q r : ℕ) → 0 < m → q ≡ r + 1 → min (m - 1) r + 1 ≡ min m q
    one_less m q r h e = omega arith

-- jobs of at least that size that are within what is free are no more than it holds
count_times : (f : Job → ℕ) (size : Job) (m : ℕ) (jobs : List Job) → ((j : Job) → is_as_large size j ≡ true → m ≤ f j)
    → count_by (is_as_large size) jobs * m ≤ sum_by f jobs
count_times f size m [] h = omega arith
count_times f size m (j ∷ js) h =
    let rest : count_by (is_as_large size) js * m ≤ sum_by f js = count_times f size m js h in
    let whole : sum_by f (j ∷ js) ≡ f j + sum_by f js = sum_by-cons f j js in
    let count : count_by (is_as_large size) (j ∷ js) ≡ cond (is_as_large size j) 1 0 + count_by (is_as_large size) js =
    sum_by-cons (λ x. cond (is_as_large size x) 1 0) j js in
    subst (λ n. n * m ≤ sum_by f (j ∷ js)) (sym count)
    (elim (is_as_large size j) as (λ b. is_as_large size j ≡ b
    → (cond b 1 0 + count_by (is_as_large size) js) * m ≤ sum_by f (j ∷ js)) [
      | true ↦ λ e. let one : m ≤ f j = h j e in omega arith
      | false ↦ λ e. omega arith
    ] refl)

pub large_within : (size : Job) (jobs : List Job) (free : Amounts) → IsWithin (sums jobs) free
    → count_by (is_as_large size) jobs ≤ share_of size free
large_within size jobs free h =
    let k : ℕ = count_by (is_as_large size) jobs in
    let memory : k * size.memory ≤ sum_by (λ j. j.memory) jobs =
    count_times (λ j. j.memory) size size.memory jobs (λ j e.
    leb-true size.memory j.memory (and_parts (leb size.memory j.memory) (leb size.disk j.disk) e).0) in
    let disk : k * size.disk ≤ sum_by (λ j. j.disk) jobs =
    count_times (λ j. j.disk) size size.disk jobs (λ j e.
    leb-true size.disk j.disk (and_parts (leb size.memory j.memory) (leb size.disk j.disk) e).1) in
    let few : k ≤ length jobs = count_by-le-length (is_as_large size) jobs in
    let in_memory : k * size.memory ≤ free.memory = omega (arith, h.memory) in
    let in_disk : k * size.disk ≤ free.disk = omega (arith, h.disk) in
    at_most-holds k (at_most free.containers free.memory size.memory) free.disk size.disk
    (at_most-holds k free.containers free.memory size.memory (omega (arith, h.containers)) in_memory) in_disk

-- where a job fits, it takes the room of one
pub share-less : (job : Job) (free : Amounts) → job.memory ≤ free.memory → job.disk ≤ free.disk → 0 < free.containers
    → share_of job (less free job) + 1 ≡ share_of job free
share-less job free memory disk container =
    let inner : at_most (free.containers - 1) (free.memory - job.memory) job.memory + 1
    ≡ at_most free.containers free.memory job.memory =
    at_most-less free.containers free.memory job.memory container memory in
    let before : ℕ = at_most free.containers free.memory job.memory in
    let some : 0 < before = omega (arith, inner) in
    let left : at_most (free.containers - 1) (free.memory - job.memory) job.memory ≡ before - 1 =
    omega (arith, inner) in
    ap (λ n. at_most n (free.disk - job.disk) job.disk + 1) left
    ∙ at_most-less before free.disk job.disk some disk
