use Rattle.std.proofs.Common.{ℕ, ◌≤◌, length, subst, arith}
use Rattle.std.specs.Int.{w8}
use Rattle.wire_fields.specs.Field.{field_number, PutsText}
use Rattle.wire_fields.proofs.Public.{length-field_u8, length-field_u32, Puts-then}
use Rattle.bbs_codec.specs.Command.{spelled}
use Rattle.bbs_codec.proofs.OpLaws.{IsOp-each}
use Rattle.bbs_codec.proofs.writing.put_command.Goals as goal

pub put_op-requires : goal.put_op-requires
put_op-requires c = λ fits.
    omega (
      arith,
      c.requires,
      (IsOp-each c.args.command.now.op).most fits,
      c.put_u8-at.ensures.place,
      c.put_u8-at.auto.out,
      length-field_u8 c.kind_of.result,
      c.put_u32-at.ensures.place,
      c.put_u32-at.auto.out,
      length-field_u32 c.args.command.now.now.0,
    )

pub returns-clause-bytes : goal.returns-clause-bytes
unfolding spelled
returns-clause-bytes c =
    let kind = subst (λ (n : ℕ). PutsText c.args.out.now 0 (field_number w8 n) c.put_u8-at.new.out c.put_u8-at.result)
    c.kind_of.ensures c.put_u8-at.ensures in
    let within : c.put_u8-at.result ≤ length c.put_u8-at.new.out =
    omega (arith, c.requires, c.put_u8-at.ensures.place, c.put_u8-at.auto.out, length-field_u8 c.kind_of.result) in
    Puts-then (omega arith) kind (Puts-then within c.put_u32-at.ensures c.put_op.ensures.bytes)
