use Rattle.std.proofs.Common.{arith}
use Rattle.wire_fields.proofs.Public.{Puts-then}
use Rattle.bbs_codec.proofs.fields.states.OptionU64Fields.put_at.Goals as goal

pub returns-in-Some : goal.returns-in-Some
returns-in-Some c = rw c.in-Some.is (Puts-then (omega (arith, c.requires)) c.put_u8-at.ensures c.put_at.ensures)
