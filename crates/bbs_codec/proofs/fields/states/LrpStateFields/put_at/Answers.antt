use Rattle.std.proofs.Common.{arith}
use Rattle.wire_fields.proofs.Public.{Puts-then}
use Rattle.bbs_codec.proofs.fields.states.LrpStateFields.put_at.Goals as goal

pub returns-in-Claimed : goal.returns-in-Claimed
returns-in-Claimed c = rw c.in-Claimed.is (Puts-then (omega (arith, c.requires)) c.put_u8-at.ensures c.put_at.ensures)

pub returns-in-Running : goal.returns-in-Running
returns-in-Running c = rw c.in-Running.is (Puts-then (omega (arith, c.requires)) c.put_u8-at-in-Running.ensures
    c.put_at-in-Running.ensures)
