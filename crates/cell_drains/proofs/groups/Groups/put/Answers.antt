use Rattle.std.proofs.Common.{[], ap, ◌∙◌}
use Rattle.std.specs.HashMap.{get}
use Rattle.std.specs.Option.{unwrap_or}
use Rattle.auctioneer.specs.Stands.{same_name}
use Rattle.cell_drains.proofs.Grouping.{put_or}
use Rattle.cell_drains.proofs.groups.Groups.put.Goals as goal

pub returns : goal.returns
returns c = λ other.
    ap (λ o. unwrap_or o []) (c.in_ok-insert.ensures.updates.0 other)
    ∙ put_or (same_name c.args.cell.now other) c.args.jobs (get same_name c.args.self.now.jobs other) []
