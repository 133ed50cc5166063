use Rattle.std.proofs.Common.{◌≡◌, ◌*◌, ◌+◌, ℕ, drop, ◌∙◌, arith}
use Rattle.diego_names.proofs.Padded.{rests_tie, words_differ, words_tie}
use Rattle.diego_names.specs.Order.{name_order}
use Rattle.diego_names.proofs.words.order_of_bytes.Goals as goal

pub returns-then-one-other : goal.returns-then-one-other
returns-then-one-other c =
    c.cmp.ensures
    ∙ words_differ c.args.a.now c.args.b.now (8 * c.loop-word.word) _ _
    (omega arith, omega arith, c.fits-a, c.fits-b) c.word_at-one.ensures c.word_at-other.ensures c.if-one-other.true
    ∙ c.loop-word.invariant

next : (n : ℕ) → 8 * (n + 1) ≡ 8 * n + 8
next n = omega arith

pub loop-word-preserved : goal.loop-word-preserved
loop-word-preserved c =
    (λ i. name_order (drop (next c.loop-word.word i) c.args.a.now) (drop (next c.loop-word.word i) c.args.b.now))
    ∙ words_tie c.args.a.now c.args.b.now (8 * c.loop-word.word) _ _
    (omega arith, omega arith, c.fits-a, c.fits-b) c.word_at-one.ensures c.word_at-other.ensures
    c.if-one-other.false
    ∙ c.loop-word.invariant

pub returns : goal.returns
returns c = rests_tie c.args.a.now c.args.b.now c.args.end (8 * c.loop-word.word) c.requires.rest
    (omega arith) ∙ c.loop-word.invariant
