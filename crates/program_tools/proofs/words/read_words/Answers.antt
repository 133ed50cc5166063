use Rattle.std.proofs.Common.{◌≡◌, length, arith}
use Rattle.program_tools.proofs.OtherWords.{other_words, three_words}
use Rattle.program_tools.proofs.words.read_words.Goals as goal

pub returns-in-len3 : goal.returns-in-len3
returns-in-len3 c =
    let above = c.in-len3.len_at_least in
    let below = c.in-len3.len_below in
    let three : length c.args.words.now ≡ 3 = omega (arith, above, below) in
    three_words c.args.words.now c.word-item-then-words-lt4.result c.number-item.result c.as_str-in-len3.result.now
    c.as_str-in-len3-2.result.now c.asked_by_two.result three c.word-item-then-words-lt4.is c.number-item.is
    c.as_str-in-len3.ensures.value c.as_str-in-len3-2.ensures.value c.asked_by_two.ensures

pub returns-in_default : goal.returns-in_default
returns-in_default c = other_words c.args.words.now (λ is. omega arith) (λ is. omega arith)
