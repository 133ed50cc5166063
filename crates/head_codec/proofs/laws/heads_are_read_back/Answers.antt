use Rattle.head_codec.proofs.HeadAgain.{head_again}
use Rattle.head_codec.proofs.laws.heads_are_read_back.Goals as goal

pub returns : goal.returns
returns c = head_again
