-- The passes are all of their board.
use Rattle.board_tests.proofs.shared.sharing.called_twice.Goals as goal

pub last_two_meet-requires : goal.last_two_meet-requires
last_two_meet-requires g c = c.in-Ok.ensures.passes.1
