use Rattle.head_codec.proofs.LongHeads.{long_same, head_shorter}
use Rattle.head_codec.proofs.laws.a_head_that_is_too_long_is_told_by_its_first_bytes.Goals as goal

pub returns-clause-first : goal.returns-clause-first
returns-clause-first c version bytes rest long = long_same version bytes rest long

pub returns-clause-shorter : goal.returns-clause-shorter
returns-clause-shorter c = head_shorter
