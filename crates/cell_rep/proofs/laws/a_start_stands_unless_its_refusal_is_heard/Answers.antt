use Rattle.cell_rep.proofs.Starts.{starts_stand}
use Rattle.cell_rep.proofs.laws.a_start_stands_unless_its_refusal_is_heard.Goals as goal

pub returns : goal.returns
returns c = starts_stand
