use Rattle.std.proofs.Common.{arith}
use Rattle.wire_fields.specs.Field.{field_instance}
use Rattle.wire_fields.proofs.Places.{Puts-then}
use Rattle.wire_fields.proofs.writing.put_instance.Goals as goal

pub returns : goal.returns
unfolding field_instance
returns c = Puts-then (omega arith) c.put_u64-at.ensures c.put_u32.ensures
