use Rattle.row_tables.proofs.Tables.{table-from_rising, table-from_sorted}
use Rattle.row_tables.proofs.laws.sorts_to_table.Goals as goal

pub returns : goal.returns
returns g c = λ R key o. record { rising = table-from_rising R key o; sorted = table-from_sorted R key o }
