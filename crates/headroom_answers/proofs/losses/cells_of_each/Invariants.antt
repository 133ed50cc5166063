use Rattle.std.proofs.Common.{◌≡◌, take}
use Rattle.std.specs.List.{flat_map}
use Rattle.site_answers.specs.Losses.{cells_of_zone}
use Rattle.headroom_answers.proofs.losses.cells_of_each.Given as goal

abbrev pub invariant-loop-zone : goal.invariant-loop-zone
invariant-loop-zone l = l.cells.items ≡ flat_map (cells_of_zone l.site) (take l.zone-index l.zones)
