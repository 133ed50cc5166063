use Rattle.forecast_laws.proofs.Found.{displaced_found}
use Rattle.forecast_laws.proofs.laws.displaced_jobs_find_room.Goals as goal

pub returns : goal.returns
returns c = λ by now line s s' r h site lost reads room j moved inside.
    displaced_found by now line s s' r h site lost reads room j moved inside
