use Rattle.std.proofs.Common.{◌≡◌, map, take}
use Rattle.loss_cases.specs.Cases.{zone_loss}
use Rattle.loss_cases.proofs.losses.each_zone.Given as goal

abbrev pub invariant-loop-zone : goal.invariant-loop-zone
invariant-loop-zone l = l.losses.items ≡ map (zone_loss l.site) (take l.zone-index l.zone-items)
