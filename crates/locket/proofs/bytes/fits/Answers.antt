use Rattle.std.proofs.Common.{arith}
use Rattle.locket.proofs.bytes.fits.Goals as goal

pub returns : goal.returns
returns c = record { now = omega arith; op = c.fits_op.ensures }
