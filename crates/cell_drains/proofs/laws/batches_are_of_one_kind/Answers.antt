use Rattle.cell_drains.proofs.Cutting.{batches_are_of_one_kind}
use Rattle.cell_drains.proofs.laws.batches_are_of_one_kind.Goals as goal

pub returns : goal.returns
returns c = batches_are_of_one_kind
