use Rattle.run_function.proofs.PhaseAlone.{phase_is_alone}
use Rattle.run_function.proofs.laws.phases_are_alone.Goals as goal

pub returns : goal.returns
returns c = λ start. phase_is_alone c.D.Disk.told
