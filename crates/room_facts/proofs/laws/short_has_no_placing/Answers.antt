use Rattle.room_facts.proofs.Short.{no_placing, no_placing_of_all}
use Rattle.room_facts.proofs.laws.short_has_no_placing.Goals as goal

pub returns-clause-tag : goal.returns-clause-tag
returns-clause-tag c = no_placing

pub returns-clause-all : goal.returns-clause-all
returns-clause-all c = no_placing_of_all
