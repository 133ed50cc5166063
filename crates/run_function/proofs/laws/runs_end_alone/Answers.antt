use Rattle.run_function.proofs.ScriptAlone.{ends_alone}
use Rattle.run_function.proofs.laws.runs_end_alone.Goals as goal

pub returns : goal.returns
returns c = λ start. ends_alone c.D.Disk.told
