use Rattle.std.proofs.Common.{arith}
use Rattle.bbs_codec.proofs.Commands.{command_most}
use Rattle.bbs_codec.proofs.Written.{Puts-front, Puts-rest}
use Rattle.bbs_codec.proofs.writing.write_command.Goals as goal

pub returns-clause-bytes : goal.returns-clause-bytes
returns-clause-bytes c = Puts-front c.put_command.ensures.bytes

pub returns-clause-rest : goal.returns-clause-rest
returns-clause-rest c = Puts-rest c.put_command.ensures.bytes

pub returns-clause-most : goal.returns-clause-most
returns-clause-most c =
    omega (arith, c.put_command.ensures.bytes.place, command_most c.args.command.now c.put_command.ensures.fits)
