use Rattle.std.proofs.Common.{List, rules, subst}
use Rattle.std.specs.List.Sorted.{IsSortedByKey, IsStableByKey}
use Rattle.std.specs.Ordering.{nat_cmp}
use Rattle.std.proofs.lemmas.List.Sorted.{answers_always}
use Rattle.pair_lines.specs.declared.answered.PairAnswered.{PairAnswered}
use Rattle.pair_runs.proofs.telling.by_line.Goals as goal

pub returns : goal.returns
returns c =
    let ys = c.sort_by_key.new.self.items in
    let sorted : IsSortedByKey (λ (a : PairAnswered). a.line) nat_cmp ys =
    c.in_ok-sort_by_key.ensures.sorted (λ a. a.line) (answers_always _ _ _ (λ f a r g h. search rules)) in
    let stable : IsStableByKey (λ (a : PairAnswered). a.line) nat_cmp c.in_ok-all.all.items ys =
    c.sort_by_key.ensures.stable (λ a. a.line) (answers_always _ _ _ (λ f a r g h. search rules)) in
    record {
      sorted_is = sorted;
      stable = subst (λ (xs : List PairAnswered). IsStableByKey (λ (a : PairAnswered). a.line) nat_cmp xs ys)
          c.in_ok-all.ensures.items stable;
    }
