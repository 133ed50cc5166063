use Rattle.std.proofs.Common.{subst, sym}
use Rattle.auctioneer.specs.Asked.{AreAnswers}
use Rattle.converge_round.proofs.Apart.{open_answers}
use Rattle.converge_round.proofs.placing.place_on.Goals as goal

pub place_jobs-requires-clause-cells : goal.place_jobs-requires-clause-cells
place_jobs-requires-clause-cells c =
    subst AreAnswers (sym c.items.ensures) (open_answers _ _ _ _ c.requires.got c.in-Ok.ensures)
