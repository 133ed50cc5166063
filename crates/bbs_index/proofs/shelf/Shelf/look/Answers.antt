use Rattle.std.proofs.Common.{sym, ap, ◌∙◌}
use Rattle.row_tables.specs.Table.{find_row}
use Rattle.bbs_index.proofs.Tables.{find_row-table_of}
use Rattle.bbs_index.proofs.shelf.Shelf.look.Goals as goal

pub returns : goal.returns
returns g c =
    let found = find_row-table_of g.met.X.Rowed.ordered g.met.X.Key.Ord.matches_eq c.self.invariant c.args.key.now in
    c.get.ensures.value ∙ sym found ∙ ap (λ v. find_row g.X.Key.Ord.cmp g.X.Rowed.key c.args.key.now v.rows)
    c.self.view_is
