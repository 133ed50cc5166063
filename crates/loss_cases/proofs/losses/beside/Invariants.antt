use Rattle.std.proofs.Common.{◌≡◌, ◌∷◌, [], map, take}
use Rattle.loss_cases.specs.Cases.{cells_loss}
use Rattle.loss_cases.proofs.losses.beside.Given as goal

abbrev pub invariant-loop-other : goal.invariant-loop-other
invariant-loop-other l = l.losses.items ≡ map (λ d. cells_loss (l.cell ∷ d.cell ∷ [])) (take l.other-index l.others)
