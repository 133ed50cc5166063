use Rattle.locket.proofs.Spanning.{leases_apart, fences_once, one_held}
use Rattle.locket.proofs.laws.leases_of_a_life_are_apart.Goals as goal

pub returns : goal.returns
returns c = record { apart = leases_apart; once = fences_once; one = one_held }
