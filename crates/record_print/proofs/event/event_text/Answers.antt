use Rattle.line_writing.proofs.Public.{if_ok, line_written}
use Rattle.record_print.proofs.event.event_text.Goals as goal

pub returns : goal.returns
returns c = if_ok _ _ c.line_ended.result (λ v. line_written v.items c.in_ok-line.ensures c.in_ok-put_event.ensures)
    c.line_ended.ensures
