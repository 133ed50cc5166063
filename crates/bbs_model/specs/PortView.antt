-- What a caller has seen of a board through its port, and what it and others did to it.
use Rattle.std.specs.Prelude.{◌≡◌, ℕ, ◌+◌, ◌^◌, ◌<◌, ◌≤◌, List, ◌++◌, length, Result}
use Rattle.bbs_model.specs.Calls.{Ends, added}
use Rattle.bbs_model.specs.Replay.{replay_log}
use Rattle.bbs_model.specs.Step.{verdict_of}
use Rattle.bbs_model.specs.declared.command.Command.{Command}
use Rattle.bbs_model.specs.declared.item.Item.{Item}
use Rattle.bbs_model.specs.declared.reply.CallFault.{CallFault}
use Rattle.bbs_model.specs.declared.reply.Reply.{Reply}
use Rattle.bbs_model.specs.declared.rows.Rows.{Rows}

-- the rows that the log began at, the log as it was when the caller last looked, and the caller's items in it
pub record PortView : Type 0 where
  pub base : Rows
  pub seen : List Item
  pub mine : List Item

-- the rows after what was seen
abbrev pub rows_seen : PortView → Rows
rows_seen v = replay_log v.base v.seen

-- others did these items since
abbrev pub after_others : PortView → List Item → PortView
after_others v others = record v { seen = v.seen ++ others }

-- the caller did these items since
abbrev pub after_own : PortView → List Item → PortView
after_own v items = record v { seen = v.seen ++ items; mine = v.mine ++ items }

-- the caller looked
pub record Looks (v w : PortView) : Type 0 where
  pub others : List Item
  pub is : w ≡ after_others v others
  pub few : length w.seen < 2 ^ 64

-- a call has its turn behind what others did, ends as the step's verdict there says, and adds its item
pub record IsCalled (by : ℕ) (v : PortView) (c : Command) (end : Result Reply CallFault) (w : PortView) : Type 0 where
  pub others : List Item
  pub ends : Ends (verdict_of (rows_seen (after_others v others)) c) (length (v.seen ++ others))
      (rows_seen (after_others v others)).next end
  pub is : w ≡ after_own (after_others v others) (added end by c)
  pub few : length w.seen < 2 ^ 64

-- the same base, more seen, more of one's own, and no more own items than items
pub record IsLater (v w : PortView) : Type 0 where
  pub base : w.base ≡ v.base
  pub seen : (rest : List Item) × (w.seen ≡ v.seen ++ rest)
  pub mine : (rest : List Item) × (w.mine ≡ v.mine ++ rest)
  pub counts : length w.mine + length v.seen ≤ length w.seen + length v.mine

-- nobody else did anything to the board
abbrev pub IsQuiet : PortView → PortView → Type 0
IsQuiet v w = length w.mine + length v.seen ≡ length w.seen + length v.mine
