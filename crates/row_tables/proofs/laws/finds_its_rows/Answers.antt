use Rattle.row_tables.proofs.Lookups.{key-find_row}
use Rattle.row_tables.proofs.Elements.{Contains-find_row, find_row-Contains}
use Rattle.row_tables.proofs.laws.finds_its_rows.Goals as goal

pub returns : goal.returns
returns g c = λ R key o. record {
  asked = key-find_row R key o;
  inside = Contains-find_row R key;
  found =
      find_row-Contains R key o;
}
