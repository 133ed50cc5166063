use Rattle.std.proofs.Common.{◌≤◌, length, sym, subst, arith}
use Rattle.wire_fields.specs.Field.{PutsText}
use Rattle.wire_fields.proofs.Public.{length-field_u32, length-field_u64, length-field_name, Puts-then}
use Rattle.locket.specs.Bytes.{FitsOp, fields_of}
use Rattle.locket.specs.declared.command.LockOp.{LockOp}
use Rattle.locket.specs.declared.command.LockOp.TheVariants.{Acquire, Renew, Release}
use Rattle.locket.proofs.bytes.put_op.Goals as goal

pub put_name-at-requires : goal.put_name-at-requires
put_name-at-requires c =
    let fits : FitsOp (Acquire c.in-Acquire.owner c.in-Acquire.ttl) = subst FitsOp c.in-Acquire.is c.fits_op.ensures in
    let most = fits.0.not_too_long in
    omega (arith, c.requires, most, length-field_name c.in-Acquire.owner)

pub put_u32-requires : goal.put_u32-requires
put_u32-requires c =
    let fits : FitsOp (Acquire c.in-Acquire.owner c.in-Acquire.ttl) = subst FitsOp c.in-Acquire.is c.fits_op.ensures in
    let most = fits.0.not_too_long in
    omega (
      arith,
      c.requires,
      most,
      length-field_name c.in-Acquire.owner,
      length-field_u32 c.in-Acquire.ttl,
      c.put_name-at.ensures.place,
      c.put_name-at.auto.out,
    )

pub returns-in-Acquire : goal.returns-in-Acquire
returns-in-Acquire c =
    let all = Puts-then (omega (arith, c.requires)) c.put_name-at.ensures c.put_u32.ensures in
    subst (λ (op : LockOp). PutsText c.args.out.now c.args.at (fields_of op) c.put_u32.new.out c.put_u32.result)
    (sym c.in-Acquire.is) all

pub put_name-at-requires-in-Renew : goal.put_name-at-requires-in-Renew
put_name-at-requires-in-Renew c =
    let fits : FitsOp (Renew c.in-Renew.owner c.in-Renew.fence c.in-Renew.ttl) =
    subst FitsOp c.in-Renew.is c.fits_op.ensures in
    let most = fits.0.not_too_long in
    omega (arith, c.requires, most, length-field_name c.in-Renew.owner)

pub put_u64-at-requires : goal.put_u64-at-requires
put_u64-at-requires c =
    let fits : FitsOp (Renew c.in-Renew.owner c.in-Renew.fence c.in-Renew.ttl) =
    subst FitsOp c.in-Renew.is c.fits_op.ensures in
    let most = fits.0.not_too_long in
    omega (
      arith,
      c.requires,
      most,
      length-field_name c.in-Renew.owner,
      length-field_u64 c.in-Renew.fence,
      c.put_name-at-in-Renew.ensures.place,
      c.put_name-at-in-Renew.auto.out,
    )

pub put_u32-requires-in-Renew : goal.put_u32-requires-in-Renew
put_u32-requires-in-Renew c =
    let fits : FitsOp (Renew c.in-Renew.owner c.in-Renew.fence c.in-Renew.ttl) =
    subst FitsOp c.in-Renew.is c.fits_op.ensures in
    let most = fits.0.not_too_long in
    omega (
      arith,
      c.requires,
      most,
      length-field_name c.in-Renew.owner,
      length-field_u64 c.in-Renew.fence,
      length-field_u32 c.in-Renew.ttl,
      c.put_name-at-in-Renew.ensures.place,
      c.put_name-at-in-Renew.auto.out,
      c.put_u64-at.ensures.place,
      c.put_u64-at.auto.out,
    )

pub returns-in-Renew : goal.returns-in-Renew
returns-in-Renew c =
    let fits : FitsOp (Renew c.in-Renew.owner c.in-Renew.fence c.in-Renew.ttl) =
    subst FitsOp c.in-Renew.is c.fits_op.ensures in
    let most = fits.0.not_too_long in
    let within : c.put_name-at-in-Renew.result ≤ length c.put_name-at-in-Renew.new.out =
    omega (
      arith,
      c.requires,
      most,
      length-field_name c.in-Renew.owner,
      c.put_name-at-in-Renew.ensures.place,
      c.put_name-at-in-Renew.auto.out,
    ) in
    let all = Puts-then (omega (arith, c.requires)) c.put_name-at-in-Renew.ensures
    (Puts-then within c.put_u64-at.ensures c.put_u32-in-Renew.ensures) in
    subst (λ (op : LockOp). PutsText c.args.out.now c.args.at
    (fields_of op) c.put_u32-in-Renew.new.out c.put_u32-in-Renew.result) (sym c.in-Renew.is) all

pub put_name-at-requires-in-Release : goal.put_name-at-requires-in-Release
put_name-at-requires-in-Release c =
    let fits : FitsOp (Release c.in-Release.owner c.in-Release.fence) =
    subst FitsOp c.in-Release.is c.fits_op.ensures in
    let most = fits.0.not_too_long in
    omega (arith, c.requires, most, length-field_name c.in-Release.owner)

pub put_u64-requires : goal.put_u64-requires
put_u64-requires c =
    let fits : FitsOp (Release c.in-Release.owner c.in-Release.fence) =
    subst FitsOp c.in-Release.is c.fits_op.ensures in
    let most = fits.0.not_too_long in
    omega (
      arith,
      c.requires,
      most,
      length-field_name c.in-Release.owner,
      length-field_u64 c.in-Release.fence,
      c.put_name-at-in-Release.ensures.place,
      c.put_name-at-in-Release.auto.out,
    )

pub returns-in-Release : goal.returns-in-Release
returns-in-Release c =
    let all = Puts-then (omega (arith, c.requires)) c.put_name-at-in-Release.ensures c.put_u64.ensures in
    subst (λ (op : LockOp). PutsText c.args.out.now c.args.at (fields_of op) c.put_u64.new.out c.put_u64.result)
    (sym c.in-Release.is) all
