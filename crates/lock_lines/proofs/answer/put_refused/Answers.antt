use Rattle.line_writing.proofs.Public.{closed, more, opened}
use Rattle.lock_lines.proofs.answer.put_refused.Goals as goal

pub returns : goal.returns
returns c =
    closed _ c.end.result
    (more (more (more (opened c.in_ok-begin.ensures) c.in_ok-put_text.ensures) c.in_ok-put_number.ensures)
    c.in_ok-put_text-2.ensures)
    c.end.ensures
