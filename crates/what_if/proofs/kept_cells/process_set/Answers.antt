use Rattle.std.proofs.Common.{ℕ, List, ap, ◌∙◌}
use Rattle.what_if.specs.Stays.{is_lost}
use Rattle.what_if.proofs.kept_cells.process_set.Goals as goal

pub returns : goal.returns
returns c = λ name.
    c.in_ok-set.ensures name
    ∙ ap (λ (names : List (List ℕ)). is_lost names name) (c.deref.ensures.value ∙ c.in_ok-names.ensures)
