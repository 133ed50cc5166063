use Rattle.room_facts.proofs.Placings.{auction_is_a_placing, some_placing}
use Rattle.room_facts.proofs.laws.room_is_a_placing.Goals as goal

pub returns-clause-any : goal.returns-clause-any
returns-clause-any c = auction_is_a_placing

pub returns-clause-some : goal.returns-clause-some
returns-clause-some c = some_placing
