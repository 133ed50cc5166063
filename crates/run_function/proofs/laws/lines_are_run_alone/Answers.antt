use Rattle.run_function.proofs.TurnsAlone.{run_is_alone}
use Rattle.run_function.proofs.laws.lines_are_run_alone.Goals as goal

pub returns : goal.returns
returns c = run_is_alone
