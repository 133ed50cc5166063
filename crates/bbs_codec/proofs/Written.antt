-- What was written in front, and what stands behind it.
use Rattle.std.proofs.Common.{◌≡◌, ℕ, ◌+◌, List, length, take, drop, sym, ap, ◌∙◌, arith, take_at, drop_at}
use Rattle.wire_fields.specs.Field.{written, PutsText}

pub Puts-front : {old text new : List ℕ} {after : ℕ} → PutsText old 0 text new after → take after new ≡ text
unfolding written
Puts-front {old} {text} {new} {after} puts =
    ap (take after) puts.bytes ∙ take_at text (drop (0 + length text) old) after (omega (arith, puts.place))

pub Puts-rest : {old text new : List ℕ} {after : ℕ} → PutsText old 0 text new after → drop after new ≡ drop after old
unfolding written
Puts-rest {old} {text} {new} {after} puts =
    ap (drop after) puts.bytes ∙ drop_at text (drop (0 + length text) old) after (omega (arith, puts.place)) ∙ ap
    (λ (n : ℕ). drop n old) (sym puts.place)
