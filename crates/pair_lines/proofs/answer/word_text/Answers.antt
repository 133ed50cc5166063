use Rattle.line_writing.proofs.Public.{if_ok, line_written}
use Rattle.pair_lines.proofs.answer.word_text.Goals as goal

pub returns : goal.returns
returns c = if_ok _ _ c.line_ended.result (λ v. line_written v.items c.in_ok-text.ensures c.in_ok-put_word.ensures)
    c.line_ended.ensures
