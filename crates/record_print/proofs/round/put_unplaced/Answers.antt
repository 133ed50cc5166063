use Rattle.line_writing.proofs.Public.{keyed}
use Rattle.record_print.proofs.round.put_unplaced.Goals as goal

pub returns : goal.returns
returns c = keyed _ _ c.put_subjects.result c.in_ok-put_key.ensures c.put_subjects.ensures
