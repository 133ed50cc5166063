use Rattle.site_spread.proofs.spread.zoning_of.Goals as goal

pub returns : goal.returns
returns c = record { zones = c.in_ok-zones.ensures; groups = c.in_ok-groups.ensures; counts = c.in_ok-counts.ensures }
