use Rattle.line_writing.proofs.Public.{closed, more, opened}
use Rattle.pair_lines.proofs.summary.put_summary.Goals as goal

pub returns : goal.returns
returns c =
    closed _ c.end.result
    (more (more (more (more (more (opened c.in_ok-begin.ensures) c.in_ok-put_number.ensures)
    c.in_ok-put_number-2.ensures) c.in_ok-put_number-3.ensures) c.in_ok-put_number-4.ensures)
    c.in_ok-put_number-5.ensures)
    c.end.ensures
