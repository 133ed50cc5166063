use Rattle.locket.proofs.Changing.{state_counted}
use Rattle.locket.proofs.locket.Locket.call.Goals as goal

pub step-requires : goal.step-requires
step-requires g c = state_counted c.self.inside.log c.self.inside.state c.self.invariant
