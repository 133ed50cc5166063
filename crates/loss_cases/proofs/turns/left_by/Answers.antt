use Rattle.std.proofs.Common.{ap, ◌∙◌}
use Rattle.loss_cases.specs.Turns.{left_by}
use Rattle.loss_cases.proofs.turns.left_by.Goals as goal

pub returns : goal.returns
returns c = c.leaves_of-left.ensures ∙ ap left_by c.in_ok-plan.ensures
