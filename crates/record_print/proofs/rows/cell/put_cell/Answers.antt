use Rattle.line_writing.proofs.Public.{closed, more, more_text, opened}
use Rattle.record_print.proofs.rows.cell.put_cell.Goals as goal

pub returns : goal.returns
returns c =
    closed _ c.end.result
    (more_text c.as_str-2.ensures (more (more (more (more
    (more (more (more (more_text c.as_str.ensures (opened c.in_ok-begin.ensures) c.in_ok-put_text.ensures)
    c.in_ok-put_number.ensures) c.in_ok-put_number-2.ensures) c.in_ok-put_number-3.ensures)
    c.in_ok-put_truth.ensures) c.in_ok-put_number-4.ensures) c.in_ok-put_optional_name.ensures)
    c.in_ok-put_number-5.ensures) c.in_ok-put_text-2.ensures)
    c.end.ensures
