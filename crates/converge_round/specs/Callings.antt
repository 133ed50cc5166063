-- What a caller does to a board, one command after another.
use Rattle.std.specs.Prelude.{◌≡◌, ℕ, Ok}
use Rattle.std.specs.List.{Contains}
use Rattle.bbs_model.specs.Calls.{by_of}
use Rattle.bbs_model.specs.PortView.{PortView, IsCalled, IsLater}
use Rattle.bbs_model.specs.Replay.{command_in}
use Rattle.bbs_model.specs.declared.command.Command.{Command}
use Rattle.bbs_model.specs.declared.item.Item.{Item}
use Rattle.bbs_model.specs.declared.reply.Reply.{Reply}
use Rattle.converge_round.specs.Tallies.{noted}
use Rattle.converge_round.specs.declared.tally.Tally.{Tally}

-- what a round has seen of the board, and what it has counted
pub record Calling : Type 0 where
  pub view : PortView
  pub tally : Tally

-- these two
abbrev pub calling : PortView → Tally → Calling
calling view tally = record { view = view; tally = tally }

-- a command is called, has a reply, and the reply counts
pub record IsNoted (by : ℕ) (c : Command) (s s' : Calling) : Type 0 where
  pub reply : Reply
  pub called : IsCalled by s.view c (Ok reply) s'.view
  pub tally_is : s'.tally ≡ noted c reply s.tally

-- what a caller did in between is its own, was to be asked, and stands in the log behind the first of the two views
pub record AreOf (by : ℕ) (Asked : Command → Type 0) (v w : PortView) : Type 0 where
  pub later : IsLater v w
  pub each : (i : Item) → Contains later.mine.0 i →
      (by_of i ≡ by) × Asked (command_in i) × Contains later.seen.0 i
