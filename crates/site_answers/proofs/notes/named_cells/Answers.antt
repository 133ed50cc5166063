use Rattle.std.proofs.Common.{ℕ, List, ap, ◌∙◌}
use Rattle.site_answers.proofs.Named.{named-from_cells}
use Rattle.what_if.specs.Stays.{is_lost}
use Rattle.site_answers.proofs.notes.named_cells.Goals as goal

pub returns : goal.returns
returns c = λ cell.
    c.in_ok-named.ensures cell
    ∙ ap (λ (names : List (List ℕ)). is_lost names cell) (c.deref.ensures.value ∙ c.in_ok-cells.ensures)
    ∙ named-from_cells c.args.dump.now cell
