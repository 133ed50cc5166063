use Rattle.std.proofs.Common.{subst, rules}
use Rattle.std.specs.List.Sorted.{IsPermutation, IsSortedByKey}
use Rattle.std.proofs.lemmas.List.Sorted.{answers_always}
use Rattle.row_tables.proofs.Public.{table-from_sorted}
use Rattle.auctioneer.specs.Order.{turn_of, turn_order}
use Rattle.auctioneer.proofs.TurnOrder.{IsKeyOrder-turn_order, turns_differ}
use Rattle.auctioneer.proofs.turns.in_order.Goals as goal

pub returns : goal.returns
returns c =
    let jobs = c.args.jobs.now in
    let sorted : IsSortedByKey turn_of turn_order c.sort_unstable_by_key.new.self.items =
    c.sort_unstable_by_key.ensures.sorted turn_of (answers_always _ _ _ (λ f a r g h. search rules)) in
    let moved : IsPermutation jobs c.sort_unstable_by_key.new.self.items =
    subst (λ xs. IsPermutation xs c.sort_unstable_by_key.new.self.items) c.in_ok-sorted.ensures.items
    c.sort_unstable_by_key.ensures.permutation in
    table-from_sorted turn_order turn_of IsKeyOrder-turn_order jobs c.sort_unstable_by_key.new.self.items
    (turns_differ jobs c.requires) sorted moved
