use Rattle.line_writing.proofs.Public.{line_written}
use Rattle.route_emitter.proofs.text.route_text.Goals as goal

pub returns : goal.returns
returns c = line_written c.in_ok-line_ended.field-0.items c.in_ok-line.ensures c.in_ok-put_entry.ensures
    c.in_ok-line_ended.ensures
