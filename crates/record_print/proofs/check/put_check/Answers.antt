use Rattle.line_writing.proofs.Public.{closed, more, more_text, opened}
use Rattle.record_print.proofs.check.put_check.Goals as goal

pub returns : goal.returns
returns c =
    closed _ c.end.result
    (more (more (more (more_text c.area_word.ensures (opened c.in_ok-begin.ensures) c.in_ok-put_text.ensures)
    c.in_ok-put_number.ensures) c.in_ok-put_number-2.ensures) c.in_ok-put_number-3.ensures)
    c.end.ensures
