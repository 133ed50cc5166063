use Rattle.std.proofs.Common.{◌∙◌}
use Rattle.cell_drains.specs.Moves.{times_by, times_moved}
use Rattle.cell_drains.proofs.Times.{most_same}
use Rattle.cell_drains.proofs.moves.most_moves.Goals as goal

pub returns : goal.returns
returns c =
    c.most_in.ensures
    ∙ most_same (times_by c.in_ok-times.times) (times_moved c.args.jobs.now) c.in_ok-times.ensures c.args.jobs.now
