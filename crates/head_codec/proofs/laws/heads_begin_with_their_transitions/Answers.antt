use Rattle.head_codec.proofs.HeadNext.{head_next}
use Rattle.head_codec.proofs.laws.heads_begin_with_their_transitions.Goals as goal

pub returns : goal.returns
returns c = head_next
