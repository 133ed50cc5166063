use Rattle.locket.proofs.Stopping.{lives_go_on, leases_over_stops}
use Rattle.locket.proofs.laws.leases_stay_over_stops.Goals as goal

pub returns : goal.returns
returns c = record { lives = lives_go_on; leases = leases_over_stops }
