-- The reasons count each cell once.
use Rattle.std.proofs.Common.{◌≡◌, ℕ, ◌+◌, ◌≤◌, Bool, true, false, cond, not, ◌&&◌, List, length, refl, sym, ap, ◌∙◌, arith}
use Rattle.std.specs.List.{Contains, sum_by, count_by}
use Rattle.cell_records.specs.declared.job.Job.{Job}
use Rattle.auctioneer.specs.Least.{NoneFits}
use Rattle.auctioneer.specs.declared.stand.Stand.{Stand}
use Rattle.room_facts.specs.Lacks.{has_tag, lacks, nothing, same_lacks, lacks_just}
use Rattle.room_facts.specs.Laws.{CountsEachOnce}
use Rattle.room_facts.specs.Reasons.{reasons_of, counted, counted_in_all}
use Rattle.room_facts.specs.declared.lacking.Lacking.{Lacking}
use Rattle.room_facts.specs.declared.reasons.Reasons.{Reasons}
use Rattle.room_facts.proofs.Fits.{fits_lacking_nothing}
use Rattle.room_facts.proofs.Lists.{sum_by-none, sum_by-ones, sum_by-plus}

-- no count is above that number
pub record IsUpTo (n : ℕ) (r : Reasons) : Type 0 where
  pub cells : r.cells ≤ n
  pub other_tag : r.other_tag ≤ n
  pub memory : r.memory ≤ n
  pub disk : r.disk ≤ n
  pub containers : r.containers ≤ n
  pub memory_disk : r.memory_disk ≤ n
  pub memory_containers : r.memory_containers ≤ n
  pub disk_containers : r.disk_containers ≤ n
  pub memory_disk_containers : r.memory_disk_containers ≤ n

-- one cell, counted under each
abbrev once : Bool → Lacking → ℕ
once own l =
    cond (not own) 1 0
    + cond (own && same_lacks l (record { memory = true; disk = false; containers = false })) 1 0
    + cond (own && same_lacks l (record { memory = false; disk = true; containers = false })) 1 0
    + cond (own && same_lacks l (record { memory = false; disk = false; containers = true })) 1 0
    + cond (own && same_lacks l (record { memory = true; disk = true; containers = false })) 1 0
    + cond (own && same_lacks l (record { memory = true; disk = false; containers = true })) 1 0
    + cond (own && same_lacks l (record { memory = false; disk = true; containers = true })) 1 0
    + cond (own && same_lacks l (record { memory = true; disk = true; containers = true })) 1 0

once_one : (own memory disk containers : Bool) → (own && same_lacks
    (record { memory = memory; disk = disk; containers = containers }) nothing) ≡ false
    → once own (record { memory = memory; disk = disk; containers = containers }) ≡ 1
once_one true true true true e = refl
once_one true true true false e = refl
once_one true true false true e = refl
once_one true true false false e = refl
once_one true false true true e = refl
once_one true false true false e = refl
once_one true false false true e = refl
once_one true false false false e = cc
once_one false true true true e = refl
once_one false true true false e = refl
once_one false true false true e = refl
once_one false true false false e = refl
once_one false false true true e = refl
once_one false false true false e = refl
once_one false false false true e = refl
once_one false false false false e = refl

module _ (job : Job) (stands : List Stand) (none : NoneFits job stands) where
  lacks_some : (s : Stand) → Contains stands s → (has_tag job.tag s && same_lacks (lacks job s) nothing) ≡ false
  lacks_some s i = sym (fits_lacking_nothing job s) ∙ none s i

  counted_so : (memory disk containers : Bool) → counted (reasons_of job stands)
      (record { memory = memory; disk = disk; containers = containers })
      ≡ count_by (lacks_just (record { memory = memory; disk = disk; containers = containers }) job) stands
  counted_so true true true = refl
  counted_so true true false = refl
  counted_so true false true = refl
  counted_so true false false = refl
  counted_so false true true = refl
  counted_so false true false = refl
  counted_so false false true = refl
  counted_so false false false =
      sym (sum_by-none (λ s. cond (lacks_just nothing job s) 1 0) stands (λ s i. ap (λ b. cond b 1 0) (lacks_some s i)))

  -- the sum of the counts is the count of all
  in_all : counted_in_all (reasons_of job stands) ≡ length stands
  in_all =
      let other : Stand → ℕ = λ s. cond (not (has_tag job.tag s)) 1 0 in
      let just : Bool → Bool → Bool → Stand → ℕ = λ m d c s.
      cond (lacks_just (record { memory = m; disk = d; containers = c }) job s) 1 0 in
      let a : Stand → ℕ = λ s. other s + just true false false s in
      let b : Stand → ℕ = λ s. a s + just false true false s in
      let c : Stand → ℕ = λ s. b s + just false false true s in
      let d : Stand → ℕ = λ s. c s + just true true false s in
      let e : Stand → ℕ = λ s. d s + just true false true s in
      let f : Stand → ℕ = λ s. e s + just false true true s in
      let g : Stand → ℕ = λ s. f s + just true true true s in
      let pa : sum_by a stands ≡ sum_by other stands + sum_by (just true false false) stands =
      sum_by-plus other (just true false false) stands in
      let pb : sum_by b stands ≡ sum_by a stands + sum_by (just false true false) stands =
      sum_by-plus a (just false true false) stands in
      let pc : sum_by c stands ≡ sum_by b stands + sum_by (just false false true) stands =
      sum_by-plus b (just false false true) stands in
      let pd : sum_by d stands ≡ sum_by c stands + sum_by (just true true false) stands =
      sum_by-plus c (just true true false) stands in
      let pe : sum_by e stands ≡ sum_by d stands + sum_by (just true false true) stands =
      sum_by-plus d (just true false true) stands in
      let pf : sum_by f stands ≡ sum_by e stands + sum_by (just false true true) stands =
      sum_by-plus e (just false true true) stands in
      let pg : sum_by g stands ≡ sum_by f stands + sum_by (just true true true) stands =
      sum_by-plus f (just true true true) stands in
      let whole : sum_by g stands ≡ length stands =
      sum_by-ones g stands (λ s i. once_one (has_tag job.tag s) (lacks job s).memory (lacks job s).disk
      (lacks job s).containers (lacks_some s i)) in
      omega (arith, pa, pb, pc, pd, pe, pf, pg, whole)

  pub counts_each_once : CountsEachOnce job stands (reasons_of job stands)
  counts_each_once = record {
    other_tag = refl;
    lacking = λ a. counted_so a.memory a.disk a.containers;
    some = λ s i own all.
        let lacks_none : (has_tag job.tag s && same_lacks (lacks job s) nothing) ≡ true =
        (λ j. own j && same_lacks (all j) nothing) in
        let lacks_one : (has_tag job.tag s && same_lacks (lacks job s) nothing) ≡ false = lacks_some s i in
        cc;
    all = in_all;
    cells = refl;
  }
