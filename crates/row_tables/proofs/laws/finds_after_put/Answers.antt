use Rattle.row_tables.proofs.Lookups.{find_row-put_row_same, find_row-put_row_other}
use Rattle.row_tables.proofs.laws.finds_after_put.Goals as goal

pub returns : goal.returns
returns g c = λ R key o. record { same = find_row-put_row_same R key o; other = find_row-put_row_other R key o }
