use Rattle.auction_scoring.proofs.Ties.{is_better-total}
use Rattle.auction_scoring.proofs.laws.better_is_total.Goals as goal

pub returns : goal.returns
returns c = is_better-total
