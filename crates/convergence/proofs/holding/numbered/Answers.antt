use Rattle.std.proofs.Common.{rules}
use Rattle.std.proofs.lemmas.List.Sorted.{answers_always, searchable_from_sorted}
use Rattle.std.specs.Ordering.{nat_cmp}
use Rattle.container_store.specs.Store.{number_of}
use Rattle.convergence.proofs.Holdings.{IsKeyOrder-nat_cmp}
use Rattle.convergence.proofs.Searches.{IsSortedByKey-from_rising, found_at, absent_at}
use Rattle.convergence.proofs.holding.numbered.Goals as goal

pub returns-in-Ok : goal.returns-in-Ok
returns-in-Ok c =
    let containers = c.args.containers.now in
    let tied = c.in-Ok.ensures.position number_of (answers_always _ _ _ (λ f a r h q. search rules)) in
    found_at nat_cmp number_of IsKeyOrder-nat_cmp c.args.number containers c.in-Ok.at c.index-containers-at.result
    c.requires c.in-Ok.ensures.bound c.index-containers-at.is tied

pub returns-in-Err : goal.returns-in-Err
returns-in-Err c =
    let containers = c.args.containers.now in
    let o = IsKeyOrder-nat_cmp in
    let sorted = IsSortedByKey-from_rising nat_cmp number_of o containers c.requires in
    let parts = c.in-Err.ensures.position number_of (answers_always _ _ _ (λ f a r h q. search rules))
    (searchable_from_sorted o.total number_of containers c.args.number sorted) in
    absent_at nat_cmp number_of o c.args.number containers c.in-Err.field-0 parts.0 parts.1
