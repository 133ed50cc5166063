use Rattle.line_writing.proofs.Public.{closed, more, more_text, opened}
use Rattle.record_print.proofs.answer.put_plain.Goals as goal

pub returns : goal.returns
returns c =
    closed _ c.end.result
    (more (more (more_text c.asked_word.ensures (more (more_text c.as_str.ensures
    (opened c.in_ok-begin.ensures) c.in_ok-put_text.ensures) c.in_ok-put_text-2.ensures) c.in_ok-put_text-3.ensures)
    c.in_ok-put_number.ensures) c.in_ok-put_subject.ensures)
    c.end.ensures
