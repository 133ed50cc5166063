use Rattle.forecast_laws.proofs.Found.{nothing_waits}
use Rattle.forecast_laws.proofs.laws.room_leaves_nothing_waiting.Goals as goal

pub returns : goal.returns
returns c = λ by now line s s' r h site lost reads none. nothing_waits by now line s s' r h site lost reads none
