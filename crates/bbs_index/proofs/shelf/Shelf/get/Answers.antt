use Rattle.std.proofs.Common.{sym, ap, subst, ◌∙◌}
use Rattle.row_tables.specs.Table.{find_row, IsRising}
use Rattle.bbs_index.proofs.Tables.{find_row-table_of, IsRising-table_of}
use Rattle.bbs_index.proofs.shelf.Shelf.get.Goals as goal

pub returns-clause-row : goal.returns-clause-row
returns-clause-row g c =
    let found = find_row-table_of g.met.X.Rowed.ordered g.met.X.Key.Ord.matches_eq c.self.invariant c.args.key.now in
    c.copied.ensures ∙ c.get.ensures.value ∙ sym found
    ∙ ap (λ v. find_row g.X.Key.Ord.cmp g.X.Rowed.key c.args.key.now v.rows) c.self.view_is

pub returns-clause-rising : goal.returns-clause-rising
returns-clause-rising g c =
    subst (λ v. IsRising g.X.Key.Ord.cmp g.X.Rowed.key v.rows) c.self.view_is
    (IsRising-table_of g.met.X.Rowed.ordered g.met.X.Key.Ord.matches_eq c.self.invariant)
