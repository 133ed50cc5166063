use Rattle.std.proofs.Common.{◌≡◌, ◌*◌, drop}
use Rattle.diego_names.specs.Order.{name_order}
use Rattle.diego_names.proofs.words.order_of_bytes.Given as goal

-- what is left decides
abbrev pub invariant-loop-word : goal.invariant-loop-word
invariant-loop-word l = name_order (drop (8 * l.word) l.a) (drop (8 * l.word) l.b) ≡ name_order l.a l.b
