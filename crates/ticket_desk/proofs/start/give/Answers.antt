-- The first seat may give a number.
use Rattle.std.proofs.Common.{subst, ℕ, ◌<◌, sym, arith}
use Rattle.ticket_desk.proofs.Gives.{splits_number}
use Rattle.ticket_desk.proofs.start.give.Goals as goal

pub split_seat-place-requires : goal.split_seat-place-requires
split_seat-place-requires g c = let asked = c.requires.board in let number = c.requires.number in (
  asked.0,
  omega arith,
  splits_number g.V.History.items g.V.History.origin g.V.History.by _ _ _ number.0
      (subst (λ (k : ℕ). k < 4096) (sym number.1) number.2),
)
