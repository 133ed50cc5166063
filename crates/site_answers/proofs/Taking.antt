-- The processes that a loss leaves nowhere, by the instances that it takes.
use Rattle.std.proofs.Common.{◌≡◌, ℕ, ◌+◌, ◌==◌, Bool, true, false, cond, ◌&&◌, not, nat_lt, List, [], map, filter, refl, sym, ap, subst, ⊎_elim, ◌∙◌, arith}
use Rattle.std.specs.List.{count_by}
use Rattle.std.specs.List.Sorted.{IsPermutation}
use Rattle.std.proofs.lemmas.Bool.{cases_eq, eq-eqb, ne_eqb}
use Rattle.std.proofs.lemmas.List.Filters.{sum_by-filter_both}
use Rattle.std.proofs.lemmas.List.Sorted.{sum_by-IsPermutation}
use Rattle.auctioneer.specs.Stands.{same_name}
use Rattle.site_answers.specs.Losses.{dark_of_many, displaced_processes, held_processes, is_dark, is_of_many, process_of, times}
use Rattle.site_answers.specs.Processes.{goes_dark, AreCounts, AreProcesses}
use Rattle.site_answers.specs.declared.going_dark.Counts.{Counts}
use Rattle.site_answers.specs.declared.going_dark.Processes.{Processes}
use Rattle.site_spread.specs.Spread.{processes}
use Rattle.what_if.specs.Stays.{is_held}
use Rattle.what_if.specs.Taken.{all_taken, is_taken, AreTaken}
use Rattle.what_if.specs.Waiting.{does_wait}
use Rattle.what_if.specs.declared.site.Site.{Site}
use Rattle.what_if.specs.declared.site.Wanted.{Wanted}
use Rattle.what_if.proofs.Agreeing.{count-map, filter-same}
use Rattle.what_if.proofs.Awaiting.{taken_wait}
use Rattle.what_if.proofs.Left.{and_turned, filter_all, filter_twice, held_without}

-- as often in another order
times-reordered : (n : List ℕ) (xs ys : List Wanted) → IsPermutation xs ys
    → times n (map process_of ys) ≡ times n (map process_of xs)
times-reordered n xs ys moved =
    count-map (same_name n) process_of ys
    ∙ sum_by-IsPermutation (λ w. cond (same_name n (process_of w)) 1 0) xs ys moved
    ∙ sym (count-map (same_name n) process_of xs)

-- what is held with cells lost is held without
held_both : (l h : Bool) → (l ≡ true → h ≡ true) → (h && l) ≡ l
held_both true h still = ap (λ (b : Bool). b && true) (still refl)
held_both false true still = refl
held_both false false still = refl

none_left : (n t h : ℕ) → n + t ≡ h → (t == h) ≡ (n == 0)
none_left n t h e =
    ⊎_elim (λ no. eq-eqb t h (omega arith) ∙ sym (eq-eqb n 0 no))
    (λ some. ne_eqb t h (λ same. some (omega arith)) ∙ sym (ne_eqb n 0 some)) (cases_eq n 0)

module _ (site : Site) (lost : List (List ℕ)) (taken : List Wanted) (are : AreTaken site lost taken) where
  displaced_taken : (n : List ℕ)
      → times n (map process_of (filter (λ w. not w.crashed) taken)) ≡ times n (displaced_processes site lost)
  displaced_taken n =
      times-reordered n (filter (λ w. not w.crashed) (all_taken site lost)) (filter (λ w. not w.crashed) taken)
      (are (λ w. not w.crashed))
      ∙ ap (λ (ws : List Wanted). times n (map process_of ws))
      (filter_twice (λ w. not w.crashed) (is_taken site lost) site.wanted
      ∙ filter-same (λ w. is_taken site lost w && not w.crashed) (λ w. does_wait site lost w && is_held site [] w.key)
      (λ w. sym (taken_wait (is_held site lost w.key) (is_held site [] w.key) w.crashed)) site.wanted)

  all_taken_times : (n : List ℕ) → times n (map process_of taken) ≡ times n (map process_of (all_taken site lost))
  all_taken_times n =
      times-reordered n (all_taken site lost) taken
      (subst (λ (xs : List Wanted). IsPermutation xs taken) (filter_all (all_taken site lost))
      (subst (IsPermutation (filter (λ w. true) (all_taken site lost))) (filter_all taken) (are (λ w. true))))

  -- what is held with the cells lost and what the loss takes is what is held without
  held_parts : (n : List ℕ)
      → times n (held_processes site lost) + times n (map process_of (all_taken site lost))
      ≡ times n (held_processes site [])
  held_parts n =
      let f : Wanted → ℕ = λ w. cond (same_name n (process_of w)) 1 0 in
      let l : Wanted → Bool = λ w. is_held site lost w.key in
      let h : Wanted → Bool = λ w. is_held site [] w.key in
      let stay : filter l (filter h site.wanted) ≡ filter l site.wanted =
      filter_twice l h site.wanted
      ∙ filter-same (λ w. h w && l w) l (λ w. held_both (l w) (h w) (held_without site lost w.key)) site.wanted in
      let go : filter (λ w. not (l w)) (filter h site.wanted) ≡ all_taken site lost =
      filter_twice (λ w. not (l w)) h site.wanted in
      let counted : (ws : List Wanted) → times n (map process_of ws) ≡ count_by (λ w. same_name n (process_of w)) ws =
      count-map (same_name n) process_of in
      (λ i. counted (filter l site.wanted) i + counted (all_taken site lost) i)
      ∙ (λ i. count_by (λ w. same_name n (process_of w)) (sym stay i) + count_by (λ w. same_name n (process_of w))
      (sym go i))
      ∙ sum_by-filter_both l (λ w. not (l w)) (λ w. refl) f (filter h site.wanted)
      ∙ sym (counted (filter h site.wanted))

  -- a process goes dark as it is counted
  dark_counted : (p : Processes) → AreProcesses site p → (counts : Counts) → AreCounts taken counts → (n : List ℕ)
      → goes_dark p counts n ≡ is_dark site lost n
  dark_counted p known counts counted n =
      (λ i. nat_lt 0 ((counted.displaced n ∙ displaced_taken n) i)
      && ((counted.taken n ∙ all_taken_times n) i == known.held n i))
      ∙ ap (λ (b : Bool). nat_lt 0 (times n (displaced_processes site lost)) && b)
      (none_left (times n (held_processes site lost)) (times n (map process_of (all_taken site lost)))
      (times n (held_processes site [])) (held_parts n))

  pub dark_found : (p : Processes) → AreProcesses site p → (counts : Counts) → AreCounts taken counts
      → filter (goes_dark p counts) p.many.items ≡ dark_of_many site lost
  dark_found p known counts counted =
      let many : List ℕ → Bool = is_of_many site.wanted in
      let dark : List ℕ → Bool = is_dark site lost in
      let names : List (List ℕ) = map process_of (processes site) in
      filter-same (goes_dark p counts) dark (dark_counted p known counts counted) p.many.items
      ∙ ap (filter dark) known.many
      ∙ filter_twice dark many names
      ∙ filter-same (λ n. many n && dark n) (λ n. dark n && many n) (λ n. and_turned (many n) (dark n)) names
      ∙ sym (filter_twice many dark names)
