use Rattle.row_tables.proofs.Lengths.{length-put_row_new, length-put_row_known, length-without_row_known, without_row_unknown}
use Rattle.row_tables.proofs.laws.length_after_change.Goals as goal

pub returns : goal.returns
returns g c = λ R key o. record {
  put_new = length-put_row_new R key o;
  put_known = length-put_row_known R key o;
  without_known = length-without_row_known R key o;
  without_unknown = without_row_unknown R key;
}
