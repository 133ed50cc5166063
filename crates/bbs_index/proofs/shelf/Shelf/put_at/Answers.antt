use Rattle.std.proofs.Common.{◌≡◌, Some, sym, ap, subst, ◌∙◌}
use Rattle.std.specs.List.{slice_get}
use Rattle.std.specs.Option.{option_map}
use Rattle.row_tables.specs.Table.{put_row}
use Rattle.bbs_index.proofs.Numbers.{updates_there, length_there}
use Rattle.bbs_index.proofs.Tables.{table_of-put, IsShelf-put}
use Rattle.bbs_index.proofs.shelf.Shelf.put_at.Goals as goal

pub invariant_of-self : goal.invariant_of-self
invariant_of-self g c =
    let at = subst (λ v. option_map g.X.Rowed.key (slice_get v.numbered c.args.number)
    ≡ Some (g.X.Rowed.key c.args.row)) (sym c.self.view_is) c.requires in
    let e = c.put_entry_at.ensures in
    IsShelf-put g.met.X.Rowed.ordered g.met.X.Key.Ord.matches_eq c.self.invariant c.args.row
    c.put_entry_at.new.map.entries
    (updates_there g.met.X.Key.Eq.laws c.self.inside.map c.put_entry_at.new.map c.self.invariant e.unique c.args.number
    c.args.row at e.rows)
    (length_there g.met.X.Key.Eq.laws c.self.inside.map c.put_entry_at.new.map c.self.invariant e.unique c.args.number
    c.args.row at e.rows)

pub returns-clause-rows : goal.returns-clause-rows
returns-clause-rows g c =
    let at = subst (λ v. option_map g.X.Rowed.key (slice_get v.numbered c.args.number)
    ≡ Some (g.X.Rowed.key c.args.row)) (sym c.self.view_is) c.requires in
    let e = c.put_entry_at.ensures in
    table_of-put g.met.X.Rowed.ordered g.met.X.Key.Ord.matches_eq c.self.invariant c.args.row
    c.put_entry_at.new.map.entries
    (updates_there g.met.X.Key.Eq.laws c.self.inside.map c.put_entry_at.new.map c.self.invariant e.unique c.args.number
    c.args.row at e.rows)
    ∙ ap (λ v. put_row g.X.Key.Ord.cmp g.X.Rowed.key c.args.row v.rows) c.self.view_is
