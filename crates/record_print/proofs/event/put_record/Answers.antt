use Rattle.line_writing.proofs.Public.{closed, more, more_text, opened}
use Rattle.record_print.proofs.event.put_record.Goals as goal

pub returns : goal.returns
returns c =
    closed _ c.end.result
    (more_text c.table_word.ensures (more (opened c.in_ok-begin.ensures) c.in_ok-put_row.ensures)
    c.in_ok-put_text.ensures)
    c.end.ensures
