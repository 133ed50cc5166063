use Rattle.head_codec.proofs.HeadLaws.{head_one}
use Rattle.head_codec.proofs.laws.heads_have_one_spelling.Goals as goal

pub returns : goal.returns
returns c = head_one
