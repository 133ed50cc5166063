use Rattle.std.proofs.Common.{◌∙◌}
use Rattle.bbs_model.proofs.Scans.{find_row-find}
use Rattle.bbs_model.proofs.tables.find_in.Goals as goal

pub returns : goal.returns
returns g c = c.first_tied.ensures ∙ find_row-find g.X.Key.Ord.cmp g.X.Rowed.key c.args.key.now c.args.rows.now
