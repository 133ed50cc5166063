use Rattle.std.proofs.Common.{rules}
use Rattle.std.proofs.lemmas.List.Sorted.{answers_always, searchable_from_sorted}
use Rattle.convergence.proofs.Searches.{IsSortedByKey-from_rising, found_at, absent_at}
use Rattle.convergence.proofs.sorted.find_sorted.Goals as goal

pub returns-in-Ok : goal.returns-in-Ok
returns-in-Ok g c =
    let rows = c.args.rows.now in
    let tied = c.in-Ok.ensures.position g.X.Rowed.key (answers_always _ _ _ (λ f a r h q. search rules)) in
    found_at g.X.Key.Ord.cmp g.X.Rowed.key g.met.X.Rowed.ordered c.args.key.now rows c.in-Ok.at c.index-rows-at.result
    c.requires c.in-Ok.ensures.bound c.index-rows-at.is tied

pub returns-in-Err : goal.returns-in-Err
returns-in-Err g c =
    let rows = c.args.rows.now in
    let o = g.met.X.Rowed.ordered in
    let sorted = IsSortedByKey-from_rising g.X.Key.Ord.cmp g.X.Rowed.key o rows c.requires in
    let parts = c.in-Err.ensures.position g.X.Rowed.key (answers_always _ _ _ (λ f a r h q. search rules))
    (searchable_from_sorted o.total g.X.Rowed.key rows c.args.key.now sorted) in
    absent_at g.X.Key.Ord.cmp g.X.Rowed.key o c.args.key.now rows c.in-Err.field-0 parts.0 parts.1
