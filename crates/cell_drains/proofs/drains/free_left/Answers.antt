use Rattle.cell_drains.proofs.Courses.{sums_from_amounts}
use Rattle.cell_drains.proofs.drains.free_left.Goals as goal

pub returns : goal.returns
returns c = sums_from_amounts c.free_in_all.result _ c.free_in_all.ensures
