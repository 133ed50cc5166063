use Rattle.std.proofs.Common.{rules}
use Rattle.std.proofs.lemmas.List.Sorted.{answers_always}
use Rattle.loss_cases.specs.declared.cells.TaggedCell.{TaggedCell}
use Rattle.loss_cases.proofs.Orders.{sorted_by_name}
use Rattle.loss_cases.proofs.cells.by_name.Goals as goal

pub returns : goal.returns
returns c =
    sorted_by_name c.args.cells.items c.sort_unstable_by_key.new.self.items c.requires
    (c.sort_unstable_by_key.ensures.sorted (λ (c : TaggedCell). c.cell)
    (answers_always _ _ _ (λ f a r g h. search rules)))
    c.sort_unstable_by_key.ensures.permutation
