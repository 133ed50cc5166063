use Rattle.std.proofs.Common.{◌≡◌, sym, subst, ◌∙◌}
use Rattle.std.specs.List.{slice_get}
use Rattle.std.specs.Option.{option_and_then}
use Rattle.indexmap.specs.IndexMap.{values, get}
use Rattle.row_tables.specs.Table.{find_row}
use Rattle.bbs_index.proofs.Numbers.{numbered_found}
use Rattle.bbs_index.proofs.Tables.{find_row-table_of}
use Rattle.bbs_index.proofs.shelf.Shelf.find.Goals as goal

pub returns-clause-row : goal.returns-clause-row
returns-clause-row g c =
    let map = c.self.inside.map in
    let known = get g.X.Key.PartialEq.eq map c.args.key.now in
    let found = find_row-table_of g.met.X.Rowed.ordered g.met.X.Key.Ord.matches_eq c.self.invariant c.args.key.now in
    subst (λ v. option_and_then (slice_get v.numbered) c.get_index_of.result
    ≡ find_row g.X.Key.Ord.cmp g.X.Rowed.key c.args.key.now v.rows) c.self.view_is
    (numbered_found (values map) c.get_index_of.result known c.get_index_of.ensures.found c.get_index_of.ensures.value ∙
    sym found)
