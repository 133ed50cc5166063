use Rattle.std.proofs.Common.{◌∙◌}
use Rattle.line_writing.proofs.Public.{closed, more, more_text, opened}
use Rattle.pair_lines.proofs.answer.put_word.Goals as goal

pub returns : goal.returns
returns c =
    closed _ c.end.result
    (more_text (c.deref.ensures ∙ c.in_ok-subject_text.ensures)
    (more (more_text c.call_word.ensures (more (more_text c.as_str.ensures
    (opened c.in_ok-begin.ensures) c.in_ok-put_text.ensures) c.in_ok-put_text-2.ensures) c.in_ok-put_text-3.ensures)
    c.in_ok-put_number.ensures) c.in_ok-put_text-4.ensures)
    c.end.ensures
