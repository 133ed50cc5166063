use Rattle.std.proofs.Common.{Bool, ◌||◌, List, ℕ, sym, ap, ◌∙◌, take_all}
use Rattle.std.specs.HashSet.{contains}
use Rattle.auctioneer.specs.Stands.{same_name}
use Rattle.what_if.specs.Stays.{is_lost}
use Rattle.what_if.proofs.Lists.{lost_next, or_last}
use Rattle.what_if.proofs.cells.set_of.Goals as goal

pub loop-name-preserved : goal.loop-name-preserved
loop-name-preserved c = λ q.
    let name = c.name-item.result in
    c.in_ok-insert.ensures.updates.0 q
    ∙ or_last (same_name name q) (contains same_name c.loop-name.set q)
    ∙ ap (λ (b : Bool). b || same_name name q) (c.loop-name.invariant q)
    ∙ sym (lost_next c.args.names.now c.loop-name.name-index name c.loop-name-test.true c.name-item.is q)

pub returns : goal.returns
returns c = λ q.
    c.loop-name.invariant q
    ∙ ap (λ (names : List (List ℕ)). is_lost names q) (take_all c.loop-name.name-index c.args.names.now
    c.loop-name-test.false)
