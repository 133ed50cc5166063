use Rattle.locket.proofs.Living.{never_falls}
use Rattle.locket.proofs.laws.a_life_never_falls.Goals as goal

pub returns : goal.returns
returns c = never_falls
