use Rattle.row_tables.proofs.Rising.{IsRising-put_row, IsRising-without_row}
use Rattle.row_tables.proofs.laws.keeps_rising.Goals as goal

pub returns : goal.returns
returns g c = λ R key o. record { put = IsRising-put_row R key o; without = IsRising-without_row R key }
