-- A board that one caller alone calls, whose disk stores.
use Rattle.std.specs.Prelude.{ℕ, List, ◌++◌, length, Ok}
use Rattle.bbs_model.specs.Calls.{added}
use Rattle.bbs_model.specs.PortView.{PortView}
use Rattle.bbs_model.specs.Replay.{replay_log}
use Rattle.bbs_model.specs.Step.{verdict_of}
use Rattle.bbs_model.specs.declared.command.Command.{Command}
use Rattle.bbs_model.specs.declared.item.Item.{Item}
use Rattle.bbs_model.specs.declared.reply.Reply.{Reply}
use Rattle.bbs_model.specs.declared.reply.Reply.TheVariants as reply
use Rattle.bbs_model.specs.declared.rows.Rows.{Rows}
use Rattle.bbs_model.specs.declared.verdict.Verdict.{Verdict}
use Rattle.bbs_model.specs.declared.verdict.Verdict.TheVariants as verdict
use Rattle.cell_rep.specs.declared.call_end.CallEnd.{CallEnd}
use Rattle.cell_rep.specs.declared.call_end.CallEnd.TheVariants.{Got, CallLost, ReplyLost}
use Rattle.cell_rep.specs.declared.wire.Delivery.{Delivery}
use Rattle.cell_rep.specs.declared.wire.Delivery.TheVariants as wire

-- the rows that its log began at, and the log
pub record SoleBoard : Type 0 where
  pub base : Rows
  pub log : List Item

-- what a caller has seen of it
abbrev pub board_seen : PortView → SoleBoard
board_seen v = record { base = v.base; log = v.seen }

-- its rows
abbrev pub rows_on : SoleBoard → Rows
rows_on b = replay_log b.base b.log

-- the reply of that verdict, at that place of the log and at a board with so many transitions
abbrev pub reply_by : Verdict → ℕ → ℕ → Reply
reply_by verdict.Ok place stamp = reply.Ok place stamp
reply_by verdict.Same place stamp = reply.Same place
reply_by (verdict.Refused why) place stamp = reply.Refused why place

-- the reply to a command
abbrev pub reply_alone : SoleBoard → Command → Reply
reply_alone b c = reply_by (verdict_of (rows_on b) c) (length b.log) (rows_on b).next

-- the board after a command of that caller
abbrev pub board_after : ℕ → Command → SoleBoard → SoleBoard
board_after by c b = record b { log = b.log ++ added (Ok (reply_alone b c)) by c }

-- the end of a call with that reply, over a wire that lets it end so
abbrev pub end_under : Delivery → Reply → CallEnd
end_under wire.Through r = Got r
end_under wire.CallLost r = CallLost
end_under wire.ReplyLost r = ReplyLost (Ok r)

-- the board after a call over that wire
abbrev pub delivered_alone : Delivery → ℕ → Command → SoleBoard → SoleBoard
delivered_alone wire.Through by c b = board_after by c b
delivered_alone wire.CallLost by c b = b
delivered_alone wire.ReplyLost by c b = board_after by c b
