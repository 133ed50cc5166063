use Rattle.room_facts.proofs.Counts.{counts_each_once}
use Rattle.room_facts.proofs.laws.reasons_are_exact.Goals as goal

pub returns : goal.returns
returns c = counts_each_once
