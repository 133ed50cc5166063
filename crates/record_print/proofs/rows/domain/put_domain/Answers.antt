use Rattle.line_writing.proofs.Public.{closed, more, more_text, opened}
use Rattle.record_print.proofs.rows.domain.put_domain.Goals as goal

pub returns : goal.returns
returns c =
    closed _ c.end.result
    (more
    (more_text c.as_str.ensures (opened c.in_ok-begin.ensures) c.in_ok-put_text.ensures)
    c.in_ok-put_optional_number.ensures)
    c.end.ensures
