use Rattle.row_tables.proofs.Lookups.{same_rows}
use Rattle.row_tables.proofs.laws.same_rows.Goals as goal

pub returns : goal.returns
returns g c = λ R key o. same_rows R key o
