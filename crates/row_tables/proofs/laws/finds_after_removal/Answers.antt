use Rattle.row_tables.proofs.Lookups.{find_row-without_row_same, find_row-without_row_other}
use Rattle.row_tables.proofs.laws.finds_after_removal.Goals as goal

pub returns : goal.returns
returns g c = λ R key o. record { same = find_row-without_row_same R key o; other = find_row-without_row_other R key o }
