use Rattle.std.proofs.Common.{◌∙◌, ℕ, List, rules}
use Rattle.std.proofs.lemmas.List.Filters.{dedup_is}
use Rattle.std.proofs.lemmas.List.Sorted.{answers_always}
use Rattle.diego_names.specs.declared.instance.Instance.{Instance}
use Rattle.convergence.specs.Strays.{stray_order}
use Rattle.convergence.proofs.Orders.{table-from_dedup}
use Rattle.convergence.proofs.StrayOrder.{IsKeyOrder-stray_order, strays_tie}
use Rattle.convergence.proofs.straying.in_stray_order.Goals as goal

pub returns : goal.returns
returns c =
    dedup_is _ _ _ c.dedup.ensures.filtered
    ∙ table-from_dedup stray_order _ IsKeyOrder-stray_order strays_tie c.args.all.items
    c.sort_unstable_by_key.new.self.items c.sort_unstable_by_key.ensures.permutation
    (c.sort_unstable_by_key.ensures.sorted (λ (s : List ℕ × Instance). (s.0, s.1.number, s.1.epoch))
    (answers_always _ _ _ (λ f a r h q. search rules)))
