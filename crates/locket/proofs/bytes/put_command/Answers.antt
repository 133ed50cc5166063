use Rattle.std.proofs.Common.{ℕ, ◌≤◌, length, subst, arith}
use Rattle.std.specs.Int.{w8}
use Rattle.wire_fields.specs.Field.{field_number, PutsText}
use Rattle.wire_fields.proofs.Public.{length-field_u8, length-field_u32, Puts-then}
use Rattle.locket.specs.Bytes.{lock_spelled}
use Rattle.locket.proofs.bytes.put_command.Goals as goal

pub put_u8-at-requires : goal.put_u8-at-requires
put_u8-at-requires c = omega (arith, c.requires, length-field_u8 c.kind_of.result)

pub put_u32-at-requires : goal.put_u32-at-requires
put_u32-at-requires c = omega (
  arith,
  c.requires,
  length-field_u8 c.kind_of.result,
  length-field_u32 c.args.command.now.now.0,
  c.put_u8-at.ensures.place,
  c.put_u8-at.auto.out,
)

pub put_op-requires : goal.put_op-requires
put_op-requires c =
    omega (
      arith,
      c.requires,
      length-field_u8 c.kind_of.result,
      length-field_u32 c.args.command.now.now.0,
      c.put_u8-at.ensures.place,
      c.put_u8-at.auto.out,
      c.put_u32-at.ensures.place,
      c.put_u32-at.auto.out,
    )

pub returns : goal.returns
unfolding lock_spelled
returns c =
    let kind = subst (λ (n : ℕ). PutsText c.args.out.now 0 (field_number w8 n) c.put_u8-at.new.out c.put_u8-at.result)
    c.kind_of.ensures c.put_u8-at.ensures in
    let within : c.put_u8-at.result ≤ length c.put_u8-at.new.out =
    omega (arith, c.requires, c.put_u8-at.ensures.place, c.put_u8-at.auto.out, length-field_u8 c.kind_of.result) in
    Puts-then (omega arith) kind (Puts-then within c.put_u32-at.ensures c.put_op.ensures)
