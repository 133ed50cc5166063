use Rattle.std.proofs.Common.{sym, ap, subst, ◌∙◌}
use Rattle.indexmap.specs.IndexMap.{spare}
use Rattle.row_tables.specs.Table.{find_row, put_row}
use Rattle.bbs_model.specs.Store.{HasRoom, TakesRoom}
use Rattle.bbs_index.proofs.Tables.{find_row-table_of, table_of-put, IsShelf-put}
use Rattle.bbs_index.proofs.shelf.Shelf.put.Goals as goal

pub put_entry-requires : goal.put_entry-requires
put_entry-requires g c =
    let found = find_row-table_of g.met.X.Rowed.ordered g.met.X.Key.Ord.matches_eq c.self.invariant
    (g.X.Rowed.key c.args.row) in
    let room = subst (λ v. HasRoom (find_row g.X.Key.Ord.cmp g.X.Rowed.key (g.X.Rowed.key c.args.row) v.rows) v.spare)
    (sym c.self.view_is) c.requires in
    subst (λ s. HasRoom s (spare c.self.inside.map)) found room

pub invariant_of-self : goal.invariant_of-self
invariant_of-self g c =
    IsShelf-put g.met.X.Rowed.ordered g.met.X.Key.Ord.matches_eq c.self.invariant c.args.row c.put_entry.new.map.entries
    c.put_entry.ensures.updates.0 c.put_entry.ensures.len

pub returns-clause-rows : goal.returns-clause-rows
returns-clause-rows g c =
    table_of-put g.met.X.Rowed.ordered g.met.X.Key.Ord.matches_eq c.self.invariant c.args.row
    c.put_entry.new.map.entries c.put_entry.ensures.updates.0
    ∙ ap (λ v. put_row g.X.Key.Ord.cmp g.X.Rowed.key c.args.row v.rows) c.self.view_is

pub returns-clause-spare : goal.returns-clause-spare
returns-clause-spare g c =
    let found = find_row-table_of g.met.X.Rowed.ordered g.met.X.Key.Ord.matches_eq c.self.invariant
    (g.X.Rowed.key c.args.row) in
    let taken = subst (λ s. TakesRoom s (spare c.self.inside.map) (spare c.put_entry.new.map))
    (sym found) c.put_entry.ensures.spare in
    subst (λ v. TakesRoom (find_row g.X.Key.Ord.cmp g.X.Rowed.key (g.X.Rowed.key c.args.row) v.rows) v.spare
    (spare c.put_entry.new.map)) c.self.view_is taken
