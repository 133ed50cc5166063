-- Where nobody else calls a board, and its disk stores.
use Rattle.std.specs.Prelude.{◌≡◌, ℕ, false, Result, Ok}
use Rattle.bbs_model.specs.Calls.{is_starved}
use Rattle.bbs_model.specs.PortView.{IsCalled, IsQuiet, PortView}
use Rattle.bbs_model.specs.declared.command.Command.{Command}
use Rattle.bbs_model.specs.declared.reply.CallFault.{CallFault}
use Rattle.bbs_model.specs.declared.reply.Reply.{Reply}
use Rattle.run_function.specs.Boards.{board_seen, board_after, reply_alone}
use Rattle.bbs_board.specs.Doubts.{doubts_in}

-- between the two nobody else called, and nothing that is seen in the end is in doubt
pub record StaysCalm (v w : PortView) : Type 0 where
  pub quiet : IsQuiet v w
  pub calm : doubts_in w.seen ≡ 0

-- a call that wants no memory has the reply that is due, and leaves the board that is due
pub record IsCallAlone (by : ℕ) (v : PortView) (c : Command) (end : Result Reply CallFault) (w : PortView) : Type 0 where
  pub reply : end ≡ Ok (reply_alone (board_seen v) c)
  pub board : board_seen w ≡ board_after by c (board_seen v)

-- so does each call
abbrev pub CallsAreAlone : Type 0
CallsAreAlone = (by : ℕ) (v : PortView) (c : Command) (end : Result Reply CallFault) (w : PortView) →
    IsCalled by v c end w → StaysCalm v w → is_starved end ≡ false → IsCallAlone by v c end w
