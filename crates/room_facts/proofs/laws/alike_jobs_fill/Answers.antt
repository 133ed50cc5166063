use Rattle.room_facts.proofs.Fills.{alike_fill}
use Rattle.room_facts.proofs.Short.{no_placing_has_more}
use Rattle.room_facts.proofs.laws.alike_jobs_fill.Goals as goal

pub returns-clause-placed : goal.returns-clause-placed
returns-clause-placed c = alike_fill

pub returns-clause-most : goal.returns-clause-most
returns-clause-most c = no_placing_has_more
