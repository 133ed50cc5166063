use Rattle.std.proofs.Common.{subst}
use Rattle.row_tables.specs.Table.{IsRising}
use Rattle.bbs_index.proofs.Tables.{IsRising-table_of}
use Rattle.bbs_index.proofs.shelf.Shelf.rows.Goals as goal

pub returns-clause-rising : goal.returns-clause-rising
returns-clause-rising g c =
    subst (λ v. IsRising g.X.Key.Ord.cmp g.X.Rowed.key v.rows) c.self.view_is
    (IsRising-table_of g.met.X.Rowed.ordered g.met.X.Key.Ord.matches_eq c.self.invariant)
