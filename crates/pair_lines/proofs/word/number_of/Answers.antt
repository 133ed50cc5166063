use Rattle.std.proofs.Common.{◌≡◌, ◌≤◌, get_or, length, sym, ◌∙◌, arith}
use Rattle.pair_lines.proofs.Numbers.{no_sign, no_zero, plain_err, plain_ok}
use Rattle.pair_lines.proofs.word.number_of.Goals as goal
use Rattle.pair_lines.proofs.word.number_of.Goals.{else-first-eq48-via-then-first-eq48+else-word-gt1, else-first-eq48-via-else-first-eq48}

pub returns-then-first-eq43 : goal.returns-then-first-eq43
returns-then-first-eq43 c = no_sign c.args.word.now (sym c.first_byte-first.ensures ∙ c.if-first-eq43.true)

pub returns-then-word-gt1 : goal.returns-then-word-gt1
returns-then-word-gt1 c = no_zero c.args.word.now (sym c.first_byte-first.ensures ∙ c.if-first-eq48.true)
    c.if-word-gt1.true

pub returns-in-Ok : goal.returns-in-Ok
returns-in-Ok c =
    let short : get_or c.args.word.now 0 0 ≡ 48 → length c.args.word.now ≤ 1 = λ begins. elim c.else-first-eq48.branch [
      | else-first-eq48-via-then-first-eq48+else-word-gt1 w ↦ omega (arith, w.if-word-gt1.false)
      | else-first-eq48-via-else-first-eq48 w ↦ absurd (w.if-first-eq48.false (c.first_byte-first.ensures ∙ begins))
    ] in
    plain_ok c.args.word.now (λ is. c.if-first-eq43.false (c.first_byte-first.ensures ∙ is)) c.in-Ok.number short
    c.in-Ok.ensures.value.0

pub returns-in-Err : goal.returns-in-Err
returns-in-Err c =
    plain_err c.args.word.now (λ is. c.if-first-eq43.false (c.first_byte-first.ensures ∙ is))
    c.in-Err.ensures.value.0
