use Rattle.std.proofs.Common.{ℕ, List, filter, map, ap, ◌∙◌}
use Rattle.auctioneer.specs.Stands.{same_name}
use Rattle.what_if.specs.declared.site.Wanted.{Wanted}
use Rattle.what_if.proofs.Grouped.{kept_holders}
use Rattle.what_if.proofs.Names.{name_from_test}
use Rattle.what_if.proofs.baseline.held_on_cells.Goals as goal

pub groups_of-requires : goal.groups_of-requires
groups_of-requires c = name_from_test

pub returns : goal.returns
returns c = λ cell.
    c.in_ok-held.ensures cell
    ∙ ap (λ (ps : List (List ℕ × Wanted)). map (λ (p : List ℕ × Wanted). p.1)
    (filter (λ (p : List ℕ × Wanted). same_name p.0 cell) ps)) (c.deref.ensures.value ∙ c.in_ok-pairs.ensures)
    ∙ kept_holders c.args.holders.now cell c.args.list.now
