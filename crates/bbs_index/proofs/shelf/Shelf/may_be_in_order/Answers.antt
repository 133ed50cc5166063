use Rattle.std.proofs.Common.{◌≡◌, length, sym, subst, ◌∙◌}
use Rattle.std.specs.List.Sorted.{IsSortedByKey}
use Rattle.std.proofs.lemmas.List.{length-map}
use Rattle.bbs_index.proofs.Numbering.{rows-sorted}
use Rattle.bbs_index.proofs.shelf.Shelf.may_be_in_order.Goals as goal

pub returns-clause-count : goal.returns-clause-count
returns-clause-count g c =
    subst (λ v. length v.numbered ≡ length v.rows) c.self.view_is
    (length-map c.self.inside.map.entries (λ e. e.1) ∙ sym c.self.invariant.once)

pub returns-clause-order : goal.returns-clause-order
returns-clause-order g c =
    subst (λ v. IsSortedByKey g.X.Rowed.key g.X.Key.Ord.cmp v.numbered → v.numbered ≡ v.rows) c.self.view_is
    (rows-sorted g.met.X.Rowed.ordered g.met.X.Key.Eq.laws g.met.X.Key.Ord.matches_eq g.X.Rowed.key
    c.self.inside.map.entries c.self.invariant c.len-len.ensures.unique)
