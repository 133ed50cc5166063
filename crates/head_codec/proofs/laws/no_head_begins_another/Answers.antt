use Rattle.head_codec.proofs.HeadAgain.{head_ends}
use Rattle.head_codec.proofs.laws.no_head_begins_another.Goals as goal

pub returns : goal.returns
returns c = head_ends
