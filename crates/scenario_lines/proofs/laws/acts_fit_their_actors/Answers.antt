use Rattle.scenario_lines.proofs.Fitting.{content_of-fits}
use Rattle.scenario_lines.proofs.laws.acts_fit_their_actors.Goals as goal

pub returns : goal.returns
returns c = content_of-fits
