use Rattle.bbs_laws.proofs.Readings.{hears_on, hears_the_same}
use Rattle.bbs_laws.proofs.hearing.readings_go_on.Goals as goal

pub returns-clause-on : goal.returns-clause-on
returns-clause-on c = hears_on

pub returns-clause-same : goal.returns-clause-same
returns-clause-same c = hears_the_same
