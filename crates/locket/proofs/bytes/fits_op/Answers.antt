use Rattle.std.proofs.Common.{sym, subst, arith}
use Rattle.locket.specs.Bytes.{FitsOp}
use Rattle.locket.proofs.bytes.fits_op.Goals as goal

pub returns-in-Acquire : goal.returns-in-Acquire
returns-in-Acquire c = subst FitsOp (sym c.in-Acquire.is) (c.bytes-owner.ensures.name, omega arith)

pub returns-in-Renew : goal.returns-in-Renew
returns-in-Renew c = subst FitsOp (sym c.in-Renew.is) (c.bytes-owner-in-Renew.ensures.name, omega arith, omega arith)

pub returns-in-Release : goal.returns-in-Release
returns-in-Release c = subst FitsOp (sym c.in-Release.is) (c.bytes-owner-in-Release.ensures.name, omega arith)
