use Rattle.std.proofs.Common.{ap, subst, sym, ◌∙◌, rules}
use Rattle.std.specs.List.Sorted.{IsSortedByKey, IsStableByKey}
use Rattle.std.specs.Ordering.{nat_cmp}
use Rattle.std.proofs.lemmas.List.Sorted.{answers_always, IsNonDecreasingBy-from_sort}
use Rattle.scenario_lines.specs.declared.answered.Answered.{Answered}
use Rattle.phase_text.specs.Answers.{AreByLine}
use Rattle.phase_text.specs.Sorting.{is_earlier_line, sorted_by}
use Rattle.phase_text.proofs.Orders.{by_line_is}
use Rattle.phase_text.proofs.sorting.answers_by_line.Goals as goal

pub returns-clause-value : goal.returns-clause-value
returns-clause-value c =
    let ys = c.sort_by_key.new.self.items in
    let sorted : IsSortedByKey (λ (a : Answered). a.line) nat_cmp ys =
    c.in_ok-sort_by_key.ensures.sorted (λ a. a.line) (answers_always _ _ _ (λ f a r g h. search rules)) in
    let stable : IsStableByKey (λ (a : Answered). a.line) nat_cmp c.in_ok-all.all.items ys =
    c.sort_by_key.ensures.stable (λ a. a.line) (answers_always _ _ _ (λ f a r g h. search rules)) in
    c.from.ensures ∙ by_line_is c.in_ok-all.all.items ys sorted stable ∙ ap
    (sorted_by is_earlier_line) c.in_ok-all.ensures

pub returns-clause-rising : goal.returns-clause-rising
returns-clause-rising c =
    let ys = c.sort_by_key.new.self.items in
    let sorted : IsSortedByKey (λ (a : Answered). a.line) nat_cmp ys =
    c.in_ok-sort_by_key.ensures.sorted (λ a. a.line) (answers_always _ _ _ (λ f a r g h. search rules)) in
    subst AreByLine (sym c.from.ensures) (IsNonDecreasingBy-from_sort (λ (a : Answered). a.line) ys sorted)
