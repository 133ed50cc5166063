use Rattle.bbs_laws.proofs.KeepRuns.{changes_where_legal}
use Rattle.bbs_laws.proofs.laws.refusals_change_nothing.Goals as goal

pub returns : goal.returns
returns c = changes_where_legal
