use Rattle.bbs_codec.proofs.Commands.{command_ends}
use Rattle.bbs_codec.proofs.laws.no_spelling_begins_another.Goals as goal

pub returns : goal.returns
returns c = command_ends
