use Rattle.std.proofs.Common.{ap, arith}
use Rattle.head_codec.specs.Head.{fault_place}
use Rattle.head_codec.proofs.Public.{head_fault_lies}
use Rattle.bbs_board.proofs.head.rows_in.Goals as goal

pub overflow_add-at : goal.overflow_add-at
overflow_add-at c =
    let told = rw c.in-Err-Codec.field-0-is at c.in-Err-Codec.ensures.told in
    let lies = head_fault_lies c.args.version c.args.head.now c.in-Err-Codec.fault told in
    omega (arith, lies, c.fault_place.ensures, ap fault_place c.in-Err-Codec.fault-is, c.requires.within)
