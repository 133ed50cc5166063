use Rattle.std.proofs.Common.{nat_lt, rules}
use Rattle.std.proofs.lemmas.List.Sorted.{answers_always}
use Rattle.cell_records.specs.declared.container.Container.{Container}
use Rattle.convergence.proofs.Holdings.{IsRising-from_adjacent, adjacent-from_rising}
use Rattle.convergence.proofs.holding.rises.Goals as goal

pub returns : goal.returns
returns c =
    let said = c.is_sorted_by.ensures.cases (λ (a b : Container). nat_lt a.instance.number b.instance.number)
    (answers_always _ _ _ (λ f a r h q. search rules)) in (
      (λ is. IsRising-from_adjacent c.args.containers.now c.is_sorted_by.result is said),
      (λ up. adjacent-from_rising c.args.containers.now c.is_sorted_by.result up said),
    )
