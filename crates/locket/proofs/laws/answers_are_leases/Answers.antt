use Rattle.locket.proofs.Spanning.{answers_leases, held_is_last, leases_stay}
use Rattle.locket.proofs.laws.answers_are_leases.Goals as goal

pub returns : goal.returns
returns c = record { answers = answers_leases; held = held_is_last; stay = leases_stay }
