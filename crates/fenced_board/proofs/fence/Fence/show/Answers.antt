use Rattle.fenced_board.proofs.Rising.{rises_below}
use Rattle.fenced_board.proofs.fence.Fence.show.Goals as goal

pub invariant_of-self : goal.invariant_of-self
invariant_of-self c =
    let f = c.self.inside in
    rises_below f.floor f.numbers.items f.greatest c.args.number c.self.invariant c.if-number-self.false
