-- What the end of a call does to the cell that made it.
use Rattle.std.specs.Prelude.{ℕ, true, false, Option, Some, None}
use Rattle.std.specs.Result.{result_unwrap_or}
use Rattle.bbs_model.specs.declared.command.Op.{Op}
use Rattle.bbs_model.specs.declared.command.Op.TheVariants as op
use Rattle.bbs_model.specs.declared.reply.Reply.{Reply}
use Rattle.bbs_model.specs.declared.reply.Reply.TheVariants as reply
use Rattle.container_store.specs.Store.{new_store}
use Rattle.diego_names.specs.declared.instance.Instance.{Instance}
use Rattle.cell_rep.specs.Acts.{not_joined}
use Rattle.cell_rep.specs.Reps.{stopping}
use Rattle.cell_rep.specs.declared.call_end.CallEnd.{CallEnd}
use Rattle.cell_rep.specs.declared.call_end.CallEnd.TheVariants.{Got, Fault, CallLost, ReplyLost, Local, Idle}
use Rattle.cell_rep.specs.declared.joined.Joined.{Joined}
use Rattle.cell_rep.specs.declared.rep.CellRep.{CellRep}

-- the container is gone, if it was there
abbrev pub without : CellRep → Instance → CellRep
without rep i = result_unwrap_or (stopping rep i) rep

-- a rep that has joined is being emptied
abbrev pub draining_from : CellRep → Option Joined → CellRep
draining_from rep None = rep
draining_from rep (Some j) = record rep { joined = Some (record j { draining = true }) }

-- the cell is being emptied
abbrev pub draining : CellRep → CellRep
draining rep = draining_from rep rep.joined

-- the board did what the call asks: the stamp is the number of transitions before it
abbrev pub after_ok : Op → ℕ → CellRep → CellRep
after_ok (op.Crash key i) stamp rep = without rep i
after_ok (op.Unclaim key i) stamp rep = without rep i
after_ok (op.CompleteTask name i failed) stamp rep = without rep i
after_ok (op.Join cell zone tag totals ttl) stamp rep =
    record rep { joined = Some (record { zone = zone; tag = tag; draining = false; store = new_store totals stamp }) }
after_ok (op.Drain cell epoch) stamp rep = draining rep
after_ok o stamp rep = rep

-- the board had done what the call asks
abbrev pub after_same : Op → CellRep → CellRep
after_same (op.Drain cell epoch) rep = draining rep
after_same o rep = rep

-- the board refused what the call asks
abbrev pub after_refusal : Op → CellRep → CellRep
after_refusal (op.Claim key i cell) rep = without rep i
after_refusal (op.Start key i cell) rep = without rep i
after_refusal (op.StartTask name i cell) rep = without rep i
after_refusal (op.Evacuate key i) rep = without rep i
after_refusal (op.Crash key i) rep = without rep i
after_refusal (op.Unclaim key i) rep = without rep i
after_refusal (op.CompleteTask name i failed) rep = without rep i
after_refusal (op.Join cell zone tag totals ttl) rep = not_joined rep
after_refusal o rep = rep

-- the rep after a reply to its call
abbrev pub after_reply : Op → Reply → CellRep → CellRep
after_reply o (reply.Ok place stamp) rep = after_ok o stamp rep
after_reply o (reply.Same place) rep = after_same o rep
after_reply o (reply.Refused why place) rep = after_refusal o rep

-- the rep after the end of its call: without a reply it stays as it was
abbrev pub left : Op → CallEnd → CellRep → CellRep
left o (Got r) rep = after_reply o r rep
left o (Fault why) rep = rep
left o CallLost rep = rep
left o (ReplyLost answer) rep = rep
left o (Local why) rep = rep
left o Idle rep = rep
