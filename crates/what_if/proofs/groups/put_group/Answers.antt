use Rattle.std.proofs.Common.{[], ap, ◌∙◌}
use Rattle.std.specs.HashMap.{get}
use Rattle.std.specs.Option.{unwrap_or}
use Rattle.what_if.proofs.Grouped.{put_or}
use Rattle.what_if.proofs.groups.put_group.Goals as goal

pub returns : goal.returns
returns g c = λ other.
    let eq = g.K.PartialEq.eq in
    ap (λ o. unwrap_or o []) (c.in_ok-insert.ensures.updates.0 other)
    ∙ put_or (eq c.args.key.now other) c.args.group (get eq c.args.groups.now other) []
