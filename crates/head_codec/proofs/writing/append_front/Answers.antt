use Rattle.std.proofs.Common.{arith}
use Rattle.head_codec.proofs.RowLengths.{length-counts}
use Rattle.head_codec.proofs.writing.append_front.Goals as goal

pub append-requires : goal.append-requires
append-requires c = omega (arith, length-counts c.args.front)
