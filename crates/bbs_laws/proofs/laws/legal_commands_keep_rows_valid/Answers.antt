use Rattle.bbs_laws.proofs.Keeps.{keeps_valid}
use Rattle.bbs_laws.proofs.laws.legal_commands_keep_rows_valid.Goals as goal

pub returns : goal.returns
returns c = keeps_valid
