use Rattle.cell_rep.proofs.Cells.{keeps_stopped, keeps_started}
use Rattle.cell_rep.proofs.laws.stops_and_starts_keep_the_cell.Goals as goal

pub returns : goal.returns
returns c = record { stop = keeps_stopped; start = keeps_started }
