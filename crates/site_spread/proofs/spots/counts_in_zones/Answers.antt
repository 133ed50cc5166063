use Rattle.std.proofs.Common.{ap, ◌∙◌}
use Rattle.std.specs.List.{count_by}
use Rattle.site_spread.proofs.Counting.{spot_from_test}
use Rattle.site_spread.specs.Spots.{same_spot, zone_spot}
use Rattle.site_spread.specs.declared.spots.Spot.{Spot}
use Rattle.what_if.proofs.Agreeing.{count-map}
use Rattle.site_spread.proofs.spots.counts_in_zones.Goals as goal

pub counts_of-requires : goal.counts_of-requires
counts_of-requires c = spot_from_test

pub returns : goal.returns
returns c = λ process zone.
    let spot : Spot = record { process = process; place = zone } in
    c.in_ok-counts.ensures spot
    ∙ ap (count_by (same_spot spot)) (c.deref.ensures.value ∙ c.in_ok-spots.ensures)
    ∙ count-map (same_spot spot) zone_spot c.args.stays.now
