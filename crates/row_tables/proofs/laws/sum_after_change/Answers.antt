use Rattle.row_tables.proofs.Sums.{sum_by-put_row, sum_by-without_row}
use Rattle.row_tables.proofs.laws.sum_after_change.Goals as goal

pub returns : goal.returns
returns g c = λ R key o. record { put = sum_by-put_row R key o; without = sum_by-without_row R key o }
