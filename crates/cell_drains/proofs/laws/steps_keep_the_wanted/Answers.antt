use Rattle.cell_drains.proofs.Keeping.{steps_keep_the_wanted}
use Rattle.cell_drains.proofs.laws.steps_keep_the_wanted.Goals as goal

pub returns : goal.returns
returns c = steps_keep_the_wanted
