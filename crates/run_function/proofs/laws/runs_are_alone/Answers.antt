use Rattle.run_function.proofs.ScriptAlone.{whole_is_alone}
use Rattle.run_function.proofs.laws.runs_are_alone.Goals as goal

pub returns : goal.returns
returns c = λ start. whole_is_alone c.D.Disk.told
