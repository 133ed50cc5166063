use Rattle.std.proofs.Common.{◌≡◌, map, take}
use Rattle.site_answers.specs.Zones.{zone_now}
use Rattle.site_answers.proofs.zones.zones_now.Given as goal

abbrev pub invariant-loop-group : goal.invariant-loop-group
invariant-loop-group l = l.zones ≡ map (zone_now l.site) (take l.group-index l.group-items)
