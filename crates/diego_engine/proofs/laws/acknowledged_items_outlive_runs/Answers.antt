use Rattle.diego_engine.proofs.Restarts.{hands_on, next_holds}
use Rattle.diego_engine.proofs.laws.acknowledged_items_outlive_runs.Goals as goal

pub returns-clause-next : goal.returns-clause-next
returns-clause-next c = next_holds

pub returns-clause-later : goal.returns-clause-later
returns-clause-later c = hands_on
