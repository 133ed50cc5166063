use Rattle.std.proofs.Common.{ap, ◌∙◌}
use Rattle.row_tables.specs.Table.{without_row}
use Rattle.bbs_index.proofs.Tables.{table_of-remove, IsShelf-remove}
use Rattle.bbs_index.proofs.shelf.Shelf.remove.Goals as goal

pub invariant_of-self : goal.invariant_of-self
invariant_of-self g c =
    IsShelf-remove g.met.X.Rowed.ordered g.met.X.Key.Ord.matches_eq c.self.invariant c.args.key.now
    c.remove_entry.new.map.entries c.remove_entry.ensures.updates.0 c.remove_entry.ensures.len

pub returns-clause-rows : goal.returns-clause-rows
returns-clause-rows g c =
    table_of-remove g.met.X.Rowed.ordered g.met.X.Key.Ord.matches_eq c.self.invariant c.args.key.now
    c.remove_entry.new.map.entries c.remove_entry.ensures.updates.0
    ∙ ap (λ v. without_row g.X.Key.Ord.cmp g.X.Rowed.key c.args.key.now v.rows) c.self.view_is
