use Rattle.std.proofs.Common.{rules}
use Rattle.std.proofs.lemmas.List.Sorted.{answers_always}
use Rattle.loss_cases.specs.Cells.{rank_of}
use Rattle.loss_cases.proofs.Orders.{sorted_by_load}
use Rattle.loss_cases.proofs.cells.by_load.Goals as goal

pub returns : goal.returns
returns c =
    sorted_by_load c.args.cells.items c.sort_unstable_by_key.new.self.items c.requires
    (c.sort_unstable_by_key.ensures.sorted (rank_of) (answers_always _ _ _ (λ f a r g h. search rules)))
    c.sort_unstable_by_key.ensures.permutation
