use Rattle.fenced_board.proofs.Lower.{lower_is_stale}
use Rattle.fenced_board.proofs.laws.a_lower_number_never_writes_after_a_higher_one.Goals as goal

pub returns : goal.returns
returns g c = lower_is_stale
