use Rattle.std.proofs.Common.{◌≡◌, map, take}
use Rattle.site_answers.specs.Zones.{zone_then}
use Rattle.site_answers.proofs.zones.zones_then.Given as goal

abbrev pub invariant-loop-group : goal.invariant-loop-group
invariant-loop-group l = l.zones ≡ map (zone_then l.site l.stands) (take l.group-index l.group-items)
