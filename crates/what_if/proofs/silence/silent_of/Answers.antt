use Rattle.std.proofs.Common.{List, ℕ, not, filter, map, ap, ◌∙◌}
use Rattle.std.specs.HashSet.{contains}
use Rattle.auctioneer.specs.Stands.{same_name}
use Rattle.dump_lines.specs.declared.cell_state.CellState.{CellState}
use Rattle.dump_lines.specs.declared.cell_state.Place.{Place}
use Rattle.what_if.specs.Sites.{has_told}
use Rattle.what_if.specs.Stays.{is_lost}
use Rattle.what_if.proofs.Agreeing.{filter-same, told-from_lost}
use Rattle.what_if.proofs.silence.silent_of.Goals as goal

pub returns : goal.returns
returns c =
    let states = c.args.dump.now.states in
    c.in_ok-list.ensures
    ∙ filter-same (λ (p : Place). not (contains same_name c.in_ok-cells.cells p.cell))
    (λ p. not (has_told states p.cell))
    (λ p. ap not (c.in_ok-cells.ensures p.cell
    ∙ ap (λ (ns : List (List ℕ)). is_lost ns p.cell) (c.deref.ensures.value ∙ c.in_ok-told.ensures ∙ ap
    (λ ss. (let names : List (List ℕ) = map (λ (s : CellState). s.place.cell) ss in names)) c.items.ensures)
    ∙ told-from_lost states p.cell)) _
    ∙ ap (filter (λ (p : Place). not (has_told states p.cell))) c.items-2.ensures
