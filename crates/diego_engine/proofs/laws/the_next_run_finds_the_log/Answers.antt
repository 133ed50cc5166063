use Rattle.diego_engine.proofs.Restarts.{next_finds}
use Rattle.diego_engine.proofs.laws.the_next_run_finds_the_log.Goals as goal

pub returns : goal.returns
returns c = next_finds
