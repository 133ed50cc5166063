use Rattle.line_writing.proofs.Public.{closed, more, more_text, opened}
use Rattle.record_print.proofs.rows.desired.put_desired.Goals as goal

pub returns : goal.returns
returns c =
    closed _ c.end.result
    (more (more (more_text c.as_str-2.ensures (more (more
    (more (more_text c.as_str.ensures (more (opened c.in_ok-begin.ensures) c.in_ok-put_number.ensures)
    c.in_ok-put_text.ensures) c.in_ok-put_number-2.ensures) c.in_ok-put_number-3.ensures)
    c.in_ok-put_number-4.ensures) c.in_ok-put_text-2.ensures) c.in_ok-put_optional_name.ensures)
    c.in_ok-put_optional_name-2.ensures)
    c.end.ensures
