use Rattle.run_function.proofs.ActsAlone.{acted_alone}
use Rattle.run_function.proofs.laws.acts_are_alone.Goals as goal

pub returns : goal.returns
returns c = acted_alone
