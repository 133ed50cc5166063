use Rattle.converge_round.proofs.RepLaws.{keep-same}
use Rattle.converge_round.proofs.stopping.stop_strays.Goals as goal

pub returns-in-Err-clause-cells : goal.returns-in-Err-clause-cells
returns-in-Err-clause-cells g c = keep-same _
