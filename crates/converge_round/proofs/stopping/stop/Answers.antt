use Rattle.converge_round.specs.Reps.{names_of}
use Rattle.converge_round.proofs.RepLaws.{keep-same, place-within}
use Rattle.converge_round.proofs.stopping.stop.Goals as goal

pub returns-then-not-reaches-clause-cells : goal.returns-then-not-reaches-clause-cells
returns-then-not-reaches-clause-cells g c = keep-same _

pub returns-in-None-clause-cells : goal.returns-in-None-clause-cells
returns-in-None-clause-cells g c = keep-same _

pub give_up_at-requires : goal.give_up_at-requires
give_up_at-requires g c = place-within c.args.cells.now _ _ (c.in-Some.ensures (names_of c.args.cells.now) c.requires)
