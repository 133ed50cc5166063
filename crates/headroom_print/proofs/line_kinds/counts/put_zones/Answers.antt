use Rattle.std.proofs.Common.{map}
use Rattle.headroom_print.specs.Values.{zone_named}
use Rattle.headroom_print.proofs.Enclosed.{built}
use Rattle.headroom_print.proofs.line_kinds.counts.put_zones.Goals as goal

pub returns : goal.returns
returns c =
    built _ (map zone_named c.args.zones.now) c.end.result c.in_ok-begin.ensures c.in_ok-add_zones.ensures c.end.ensures
