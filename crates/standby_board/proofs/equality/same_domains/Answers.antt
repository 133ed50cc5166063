-- Rows that compare as equal are the same.
use Rattle.std.proofs.Common.{arith, rules}
use Rattle.std.proofs.lemmas.Grind.{common_steps}
use Rattle.standby_board.proofs.Alike.{alike}
use Rattle.standby_board.proofs.equality.same_domains.Goals as goal

pub returns : goal.returns
returns c = alike _ _ _ c.eq.ensures (λ a b. first_of (search rules, grind (arith, common_steps)))
