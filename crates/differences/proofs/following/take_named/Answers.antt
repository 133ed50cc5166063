use Rattle.differences.proofs.Keys.{TellsApart-names, apart}
use Rattle.differences.proofs.following.take_named.Goals as goal

pub returns-clause-there : goal.returns-clause-there
returns-clause-there g c = c.renew.ensures.updates.1

pub returns-clause-others : goal.returns-clause-others
returns-clause-others g c q other = c.renew.ensures.updates.2 q (apart TellsApart-names c.args.name q other)
