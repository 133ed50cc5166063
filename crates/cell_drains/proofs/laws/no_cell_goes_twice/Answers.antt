use Rattle.cell_drains.proofs.Seating.{no_cell_goes_twice}
use Rattle.cell_drains.proofs.laws.no_cell_goes_twice.Goals as goal

pub returns : goal.returns
returns c = no_cell_goes_twice
