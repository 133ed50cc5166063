use Rattle.std.proofs.Common.{◌≡◌, filter, map, take}
use Rattle.site_spread.specs.Spots.{uneven_by}
use Rattle.site_spread.specs.Spread.{is_uneven}
use Rattle.site_spread.proofs.spread.uneven_among.Given as goal

abbrev pub invariant-loop-wanted : goal.invariant-loop-wanted
invariant-loop-wanted l = l.uneven.items ≡ filter is_uneven (map (uneven_by l.zoning) (take l.wanted-index l.list))
