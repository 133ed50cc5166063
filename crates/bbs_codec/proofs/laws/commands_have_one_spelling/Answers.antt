use Rattle.bbs_codec.proofs.Commands.{command_spelled}
use Rattle.bbs_codec.proofs.laws.commands_have_one_spelling.Goals as goal

pub returns : goal.returns
returns c = command_spelled
