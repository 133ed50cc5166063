use Rattle.auction_scoring.proofs.Ties.{IsKeyOrder-score_order}
use Rattle.auction_scoring.proofs.laws.scores_are_ordered.Goals as goal

pub returns-clause-order : goal.returns-clause-order
returns-clause-order c = IsKeyOrder-score_order
