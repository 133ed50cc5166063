use Rattle.cell_drains.proofs.Chains.{drains_are_chains}
use Rattle.cell_drains.proofs.laws.drains_are_chains.Goals as goal

pub returns : goal.returns
returns c = drains_are_chains
