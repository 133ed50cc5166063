use Rattle.std.proofs.Common.{subst, sym}
use Rattle.std.proofs.lemmas.List.Elements.{All-get_or}
use Rattle.auctioneer.specs.Asked.{IsSoundAnswer}
use Rattle.site_answers.proofs.cell_counts.count_all.Goals as goal

pub count_on-requires : goal.count_on-requires
count_on-requires c =
    subst IsSoundAnswer (sym c.answer-item.is)
    (All-get_or IsSoundAnswer c.args.cells.now c.loop-answer.answer-index c.answer-item.result c.loop-answer-test.true
    c.requires.each)
