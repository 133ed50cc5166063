use Rattle.std.proofs.Common.{arith}
use Rattle.locket.proofs.Reading.{lock_length}
use Rattle.locket.proofs.Writing.{Puts-front}
use Rattle.locket.proofs.bytes.put_lock_command.Goals as goal

pub returns-clause-bytes : goal.returns-clause-bytes
returns-clause-bytes c = Puts-front c.put_command.ensures

pub returns-clause-least : goal.returns-clause-least
returns-clause-least c = let len = lock_length c.args.command.now c.fits.ensures in
    omega (arith, c.put_command.ensures.place, len.0)

pub returns-clause-most : goal.returns-clause-most
returns-clause-most c = let len = lock_length c.args.command.now c.fits.ensures in
    omega (arith, c.put_command.ensures.place, len.1)
