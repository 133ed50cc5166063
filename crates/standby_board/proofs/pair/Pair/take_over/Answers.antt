-- The standby of the pair is the board that takes over.
use Rattle.std.proofs.Common.{◌∙◌, ap, subst}
use Rattle.fenced_board.specs.Fences.{FenceView}
use Rattle.standby_board.specs.Ends.{IsTaken}
use Rattle.standby_board.specs.Pairs.{PairView}
use Rattle.standby_board.proofs.pair.Pair.take_over.Goals as goal

pub returns-clause-board : goal.returns-clause-board
returns-clause-board g c =
    subst (λ (v : PairView g.row.D.Denot g.row.E.Denot). IsTaken c.args.fence v c.new.result) c.self.view_is
    (record { board_is = c.new.ensures.board; start = c.new.ensures.start; fence = c.new.ensures.fence })
