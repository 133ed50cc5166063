use Rattle.std.proofs.Common.{◌≡◌, map, take}
use Rattle.loss_cases.specs.Fits.{zone_filled}
use Rattle.loss_cases.proofs.fillings.zones_filled.Given as goal

abbrev pub invariant-loop-zone : goal.invariant-loop-zone
invariant-loop-zone l = l.counts.items ≡ map (zone_filled l.filled) (take l.zone-index l.zone-items)
