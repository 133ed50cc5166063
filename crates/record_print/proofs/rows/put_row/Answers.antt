use Rattle.line_writing.proofs.Public.{keyed}
use Rattle.record_print.proofs.rows.put_row.Goals as goal

pub returns : goal.returns
returns c = keyed _ _ c.put_row_value.result c.in_ok-put_key.ensures c.put_row_value.ensures
