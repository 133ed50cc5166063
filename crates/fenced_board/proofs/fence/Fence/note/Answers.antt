use Rattle.std.proofs.Common.{ℕ, List, sym, subst}
use Rattle.bbs_board.specs.Kept.{RiseBetween}
use Rattle.fenced_board.proofs.Rising.{rises_more}
use Rattle.fenced_board.proofs.fence.Fence.note.Goals as goal

pub invariant_of-self : goal.invariant_of-self
invariant_of-self c =
    let f = c.self.inside in
    subst (λ (numbers : List ℕ). RiseBetween f.floor numbers f.greatest) (sym c.push_reserved.ensures.items)
    (rises_more f.floor f.numbers.items f.greatest c.self.invariant)
