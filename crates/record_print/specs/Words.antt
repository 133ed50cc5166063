-- The words that stand in printed lines.
use Rattle.std.specs.Prelude.{ℕ, List, [], codes}
use Rattle.diego_names.specs.declared.state_name.StateName.{StateName}
use Rattle.diego_names.specs.declared.state_name.StateName.TheVariants.{Unclaimed, Claimed, Running, Crashed, Pending, Completed, Resolving}
use Rattle.lrp_records.specs.declared.presence.Presence.{Presence}
use Rattle.lrp_records.specs.declared.presence.Presence.TheVariants.{Ordinary, Evacuating, Suspect}
use Rattle.bbs_model.specs.declared.command.Op.{Op}
use Rattle.bbs_model.specs.declared.command.Op.TheVariants as op
use Rattle.bbs_model.specs.declared.event.Change.{Change}
use Rattle.bbs_model.specs.declared.event.Change.TheVariants.{Created, Changed, Removed}
use Rattle.bbs_model.specs.declared.event.Row.{Row}
use Rattle.bbs_model.specs.declared.event.Row.TheVariants as row
use Rattle.bbs_model.specs.declared.reply.CallFault.TheVariants as fault
use Rattle.bbs_model.specs.declared.reply.Reply.TheVariants as reply
use Rattle.cell_rep.specs.declared.call_end.CallEnd.{CallEnd}
use Rattle.cell_rep.specs.declared.call_end.CallEnd.TheVariants.{Got, Fault, CallLost, ReplyLost, Local, Idle}
use Rattle.disk_trait.specs.declared.area.Area.{Area}
use Rattle.disk_trait.specs.declared.area.Area.TheVariants.{A, B}
use Rattle.record_print.specs.declared.asked.ActWord.{ActWord}
use Rattle.record_print.specs.declared.asked.ActWord.TheVariants as act
use Rattle.record_print.specs.declared.asked.Asked.{Asked}
use Rattle.record_print.specs.declared.asked.Asked.TheVariants as asked

-- the word of a cell's line
abbrev pub act_word : ActWord → List ℕ
act_word act.Join = codes "join"
act_word act.Renew = codes "renew"
act_word act.Claim = codes "claim"
act_word act.Run = codes "run"
act_word act.Up = codes "up"
act_word act.Crash = codes "crash"
act_word act.Finish = codes "finish"
act_word act.Settle = codes "settle"
act_word act.Evacuate = codes "evacuate"
act_word act.Die = codes "die"

-- the word of a command
abbrev pub call_word : Op → List ℕ
call_word (op.Desire desired) = codes "desire"
call_word (op.Update process instances route port) = codes "update"
call_word (op.Undesire process) = codes "undesire"
call_word (op.Make key) = codes "make"
call_word (op.Claim key instance cell) = codes "claim"
call_word (op.Start key instance cell) = codes "start"
call_word (op.Crash key instance) = codes "crash"
call_word (op.Unclaim key instance) = codes "unclaim"
call_word (op.Restart key) = codes "restart"
call_word (op.Remove key instance) = codes "remove"
call_word (op.PlaceFail key) = codes "placefail"
call_word (op.Evacuate key instance) = codes "evacuate"
call_word (op.DropEvacuating key instance) = codes "dropevacuating"
call_word (op.NewTask name memory disk tag) = codes "task"
call_word (op.StartTask name instance cell) = codes "starttask"
call_word (op.CompleteTask name instance failed) = codes "completetask"
call_word (op.CancelTask name) = codes "cancel"
call_word (op.ResolveTask name) = codes "resolve"
call_word (op.DeleteTask name) = codes "delete"
call_word (op.KickTask name) = codes "kick"
call_word (op.ExpireTask name) = codes "expire"
call_word (op.Join cell zone tag totals ttl) = codes "join"
call_word (op.Renew cell epoch ttl) = codes "renew"
call_word (op.Drain cell epoch) = codes "drain"
call_word (op.Vanish cell) = codes "vanish"
call_word (op.Fresh domain ttl) = codes "fresh"
call_word (op.Forget domain) = codes "forget"
call_word (op.Suspect key instance) = codes "suspect"
call_word (op.DropSuspect key instance) = codes "dropsuspect"

-- the word of what was asked: that of the command, or that of the line where none was made
abbrev pub asked_word : Asked → List ℕ
asked_word (asked.Command op) = call_word op
asked_word (asked.Word word job) = act_word word

-- the word for how a call ended; the text of a phase that wants memory isn't printed
abbrev pub end_word : CallEnd → List ℕ
end_word (Got (reply.Ok place stamp)) = codes "ok"
end_word (Got (reply.Same place)) = codes "same"
end_word (Got (reply.Refused why place)) = codes "refused"
end_word (Fault (fault.Disk place)) = codes "disk"
end_word (Fault fault.OutOfMemory) = []
end_word CallLost = codes "lost call"
end_word (ReplyLost answer) = codes "lost reply"
end_word (Local why) = codes "refused"
end_word Idle = codes "none"

-- the word of a change
abbrev pub change_word : Change → List ℕ
change_word Created = codes "created"
change_word Changed = codes "changed"
change_word Removed = codes "removed"

-- the word of a row's table
abbrev pub table_word : Row → List ℕ
table_word (row.Desired d) = codes "desired"
table_word (row.Actual a) = codes "actual"
table_word (row.Task t) = codes "task"
table_word (row.Cell c) = codes "cell"
table_word (row.Domain d) = codes "domain"

-- the word of a presence
abbrev pub presence_word : Presence → List ℕ
presence_word Ordinary = codes "ordinary"
presence_word Evacuating = codes "evacuating"
presence_word Suspect = codes "suspect"

-- the word of a state
abbrev pub state_word : StateName → List ℕ
state_word Unclaimed = codes "unclaimed"
state_word Claimed = codes "claimed"
state_word Running = codes "running"
state_word Crashed = codes "crashed"
state_word Pending = codes "pending"
state_word Completed = codes "completed"
state_word Resolving = codes "resolving"

-- the word of an area
abbrev pub check_area_word : Area → List ℕ
check_area_word A = codes "a"
check_area_word B = codes "b"
