-- What waits with cells lost is what waits with none lost, and what the loss takes.
use Rattle.std.proofs.Common.{◌≡◌, ℕ, ◌+◌, ◌≤◌, ◌^◌, Bool, true, false, ◌&&◌, not, List, [], ◌++◌, length, map, filter, refl, sym, ap, subst, ◌∙◌, append_assoc, arith}
use Rattle.std.specs.List.Sorted.{IsPermutation}
use Rattle.std.proofs.lemmas.Bool.{false≢true}
use Rattle.std.proofs.lemmas.List.{length-append, length-map, map-append}
use Rattle.std.proofs.lemmas.List.Sorted.{IsPermutation-append, IsPermutation-append_comm, IsPermutation-append_left, IsPermutation-filter_both, IsPermutation-map, IsPermutation-refl, IsPermutation-trans, length_permutation}
use Rattle.cell_records.specs.declared.job.Job.{Job}
use Rattle.what_if.specs.Sites.{IsSite}
use Rattle.what_if.specs.Stays.{is_held}
use Rattle.what_if.specs.Taken.{all_taken, is_taken, AreTaken}
use Rattle.what_if.specs.Waiting.{does_wait, instance_job, waits}
use Rattle.what_if.specs.declared.site.Site.{Site}
use Rattle.what_if.specs.declared.site.Wanted.{Wanted}
use Rattle.what_if.proofs.Agreeing.{filter-same}
use Rattle.what_if.proofs.Left.{filter_twice, held_without}
use Rattle.what_if.proofs.Lists.{shorter}

-- of what waits, that which a cell held before
pub taken_wait : (l h c : Bool) → ((not l && not c) && h) ≡ ((h && not l) && not c)
taken_wait true true c = refl
taken_wait true false c = refl
taken_wait false true true = refl
taken_wait false true false = refl
taken_wait false false true = refl
taken_wait false false false = refl

-- and that which none did
others_wait : (l h c : Bool) → (l ≡ true → h ≡ true) → ((not l && not c) && not h) ≡ (not h && not c)
others_wait true true c still = refl
others_wait true false c still = absurd (false≢true (still refl))
others_wait false true true still = refl
others_wait false true false still = refl
others_wait false false true still = refl
others_wait false false false still = refl

module _ (site : Site) (lost : List (List ℕ)) where
  -- with these cells lost, those that a cell held before and the others
  both_wait : IsPermutation (filter (does_wait site lost) site.wanted)
      (filter (λ w. not w.crashed) (all_taken site lost) ++ filter (does_wait site []) site.wanted)
  both_wait =
      let before : Wanted → Bool = λ w. is_held site [] w.key in
      let all : List Wanted = filter (does_wait site lost) site.wanted in
      let first : filter before all ≡ filter (λ w. not w.crashed) (all_taken site lost) =
      filter_twice before (does_wait site lost) site.wanted
      ∙ filter-same (λ w. does_wait site lost w && before w) (λ w. is_taken site lost w && not w.crashed)
      (λ w. taken_wait (is_held site lost w.key) (before w) w.crashed) site.wanted
      ∙ sym (filter_twice (λ w. not w.crashed) (is_taken site lost) site.wanted) in
      let second : filter (λ w. not (before w)) all ≡ filter (does_wait site []) site.wanted =
      filter_twice (λ w. not (before w)) (does_wait site lost) site.wanted
      ∙ filter-same (λ w. does_wait site lost w && not (before w)) (does_wait site [])
      (λ w. others_wait (is_held site lost w.key) (before w) w.crashed (held_without site lost w.key)) site.wanted in
      subst (λ (xs : List Wanted). IsPermutation all (xs ++ filter (does_wait site []) site.wanted)) first
      (subst (λ (xs : List Wanted). IsPermutation all (filter before all ++ xs)) second
      (IsPermutation-filter_both before (λ w. not (before w)) (λ w. refl) all))

  -- what waits is what waited and what the loss takes
  pub waits_both : (taken : List Wanted) → AreTaken site lost taken
      → IsPermutation (waits site lost) (waits site [] ++ map instance_job (filter (λ w. not w.crashed) taken))
  waits_both taken are =
      let new : List Wanted = filter (λ w. not w.crashed) (all_taken site lost) in
      let old : List Wanted = filter (does_wait site []) site.wanted in
      let jobs : List Job = map instance_job (filter (does_wait site lost) site.wanted) in
      let told : List Job = map instance_job (filter (λ w. not w.crashed) taken) in
      let split : IsPermutation jobs (map instance_job new ++ map instance_job old) =
      subst (IsPermutation jobs) (map-append instance_job new old)
      (IsPermutation-map instance_job (filter (does_wait site lost) site.wanted) (new ++ old) both_wait) in
      let behind : IsPermutation (waits site lost) (map instance_job new ++ waits site []) =
      subst (IsPermutation (waits site lost)) (append_assoc (map instance_job new) (map instance_job old) site.pending)
      (IsPermutation-append_left site.pending jobs (map instance_job new ++ map instance_job old) split) in
      let turned : IsPermutation (map instance_job new ++ waits site []) (waits site [] ++ map instance_job new) =
      IsPermutation-append_comm (map instance_job new) (waits site []) in
      let same : IsPermutation (waits site [] ++ map instance_job new) (waits site [] ++ told) =
      IsPermutation-append (waits site []) (waits site []) (map instance_job new) told
      (IsPermutation-refl (waits site []))
      (IsPermutation-map instance_job new (filter (λ w. not w.crashed) taken) (are (λ w. not w.crashed))) in
      IsPermutation-trans (waits site lost) (waits site [] ++ map instance_job new) (waits site [] ++ told)
      (IsPermutation-trans (waits site lost) (map instance_job new ++ waits site [])
      (waits site [] ++ map instance_job new)
      behind turned) same

  -- and there are few of it
  pub waits_in_all : IsSite site → length (waits site lost) ≤ 2 ^ 32
  waits_in_all h =
      let both = length-append (map instance_job (filter (does_wait site lost) site.wanted)) site.pending in
      omega (
        arith,
        both,
        length-map (filter (does_wait site lost) site.wanted) instance_job,
        shorter (does_wait site lost) site.wanted,
        h.few,
      )
