use Rattle.diego_engine.proofs.PhaseEnds.{phases_kept, runs_keep}
use Rattle.diego_engine.proofs.laws.phases_are_kept_from_their_ends.Goals as goal

pub returns-clause-phases : goal.returns-clause-phases
returns-clause-phases c = phases_kept

pub returns-clause-runs : goal.returns-clause-runs
returns-clause-runs c = runs_keep
