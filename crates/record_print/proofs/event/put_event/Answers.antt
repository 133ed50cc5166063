use Rattle.line_writing.proofs.Public.{closed, more, more_text, opened}
use Rattle.record_print.proofs.event.put_event.Goals as goal

pub returns : goal.returns
returns c =
    closed _ c.end.result
    (more_text c.table_word.ensures (more (more_text c.change_word.ensures
    (opened c.in_ok-begin.ensures) c.in_ok-put_text.ensures) c.in_ok-put_row.ensures) c.in_ok-put_text-2.ensures)
    c.end.ensures
