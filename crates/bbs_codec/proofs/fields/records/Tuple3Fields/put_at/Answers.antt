use Rattle.std.proofs.Common.{arith}
use Rattle.wire_fields.proofs.Public.{Puts-then}
use Rattle.bbs_codec.proofs.fields.records.Tuple3Fields.put_at.Goals as goal

pub returns : goal.returns
returns g c = Puts-then (omega arith) c.put_at-at.ensures c.put_at.ensures
