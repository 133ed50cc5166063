use Rattle.run_theorem.proofs.ItsCells.{go_over_its_cells}
use Rattle.run_theorem.proofs.laws.rounds_go_over_the_cells.Goals as goal

pub returns : goal.returns
returns c = go_over_its_cells
