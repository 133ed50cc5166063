use Rattle.line_writing.proofs.Public.{closed, more, opened}
use Rattle.lock_lines.proofs.answer.put_lease.Goals as goal

pub returns : goal.returns
returns c =
    closed _ c.end.result
    (more (more (more (more (opened c.in_ok-begin.ensures) c.in_ok-put_text.ensures) c.in_ok-put_number.ensures)
    c.in_ok-put_number-2.ensures) c.in_ok-put_optional_number.ensures)
    c.end.ensures
