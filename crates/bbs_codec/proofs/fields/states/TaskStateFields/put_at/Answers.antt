use Rattle.std.proofs.Common.{arith}
use Rattle.wire_fields.proofs.Public.{Puts-then}
use Rattle.bbs_codec.proofs.fields.states.TaskStateFields.put_at.Goals as goal

pub returns-in-Running : goal.returns-in-Running
returns-in-Running c = rw c.in-Running.is (Puts-then (omega (arith, c.requires)) c.put_u8-at.ensures c.put_at.ensures)

pub returns-in-Completed : goal.returns-in-Completed
returns-in-Completed c = rw c.in-Completed.is (Puts-then
    (omega (arith, c.requires)) c.put_u8-at-in-Completed.ensures c.put_at-in-Completed.ensures)

pub returns-in-Resolving : goal.returns-in-Resolving
returns-in-Resolving c = rw c.in-Resolving.is (Puts-then
    (omega (arith, c.requires)) c.put_u8-at-in-Resolving.ensures c.put_at-in-Resolving.ensures)
