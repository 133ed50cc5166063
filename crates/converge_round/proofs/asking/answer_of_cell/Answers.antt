use Rattle.converge_round.specs.Askings.{Hears}
use Rattle.converge_round.specs.Reps.{names_of}
use Rattle.converge_round.proofs.HeardLaws.{if_ok, hears_at}
use Rattle.converge_round.proofs.asking.answer_of_cell.Goals as goal

pub returns-in-Some : goal.returns-in-Some
returns-in-Some c =
    let cells = c.args.cells.now in
    let rep = c.index-cells-at.result in
    if_ok _ (Hears cells c.args.cell.now c.args.epoch) _
    (λ o e. hears_at cells c.args.cell.now c.args.epoch c.in-Some.at rep
    (c.in-Some.ensures (names_of cells) c.requires) c.index-cells-at.is c.answer_under.ensures.store o e)
    c.answer_under.ensures.answer
