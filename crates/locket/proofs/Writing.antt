-- What was written in front.
use Rattle.std.proofs.Common.{◌≡◌, ℕ, ◌+◌, List, length, take, drop, ap, ◌∙◌, arith, take_at}
use Rattle.wire_fields.specs.Field.{written, PutsText}

pub Puts-front : {old text new : List ℕ} {after : ℕ} → PutsText old 0 text new after → take after new ≡ text
unfolding written
Puts-front {old} {text} {new} {after} puts =
    ap (take after) puts.bytes ∙ take_at text (drop (0 + length text) old) after (omega (arith, puts.place))
