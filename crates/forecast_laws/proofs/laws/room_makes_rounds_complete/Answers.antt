use Rattle.forecast_laws.proofs.Found.{ends_well}
use Rattle.forecast_laws.proofs.laws.room_makes_rounds_complete.Goals as goal

pub returns : goal.returns
returns c = ends_well c.rounds_that_nothing_disturbs_are_complete.ensures c.complete_rounds_converge.ensures
