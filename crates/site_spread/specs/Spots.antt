-- How it is looked up where instances of a process stand.
use Rattle.std.specs.Prelude.{◌≡◌, ℕ, Bool, ◌&&◌, ◌||◌, nat_lt, List, map, filter, Option, unwrap_or}
use Rattle.std.specs.HashMap.{HashMap, get}
use Rattle.std.specs.HashSet.{HashSet, contains}
use Rattle.cell_records.specs.declared.answer.Answer.{Answer}
use Rattle.auctioneer.specs.Stands.{same_name}
use Rattle.forecast_records.specs.declared.spread.Uneven.{Uneven}
use Rattle.forecast_records.specs.declared.spread.ZoneCount.{ZoneCount}
use Rattle.site_spread.specs.Spread.{has_cell, instances_in, spread_of, zone_names}
use Rattle.site_spread.specs.Groups.{is_in}
use Rattle.site_spread.specs.declared.group.Group.{Group}
use Rattle.site_spread.specs.declared.spots.Spot.{Spot}
use Rattle.site_spread.specs.declared.spread.Zoning.{Zoning}
use Rattle.what_if.specs.declared.site.Site.{Site}
use Rattle.what_if.specs.declared.site.Stay.{Stay}
use Rattle.what_if.specs.declared.site.Wanted.{Wanted}

-- the process and the zone of an instance
abbrev pub zone_spot : Stay → Spot
zone_spot s = record { process = s.key.process; place = s.zone }

-- the process and the cell of an instance
abbrev pub cell_spot : Stay → Spot
cell_spot s = record { process = s.key.process; place = s.cell }

-- whether both are one process at one place
abbrev pub same_spot : Spot → Spot → Bool
same_spot a b = same_name a.process b.process && same_name a.place b.place

-- how many were counted of the process at the place
abbrev pub counted_at : {S : Type 0} → HashMap Spot ℕ S → List ℕ → List ℕ → ℕ
counted_at counts process place = unwrap_or (get same_spot counts (record { process = process; place = place })) 0

-- whether both are one zone and one tag
abbrev pub same_group : Group → Group → Bool
same_group a b = is_in a b.zone b.tag

-- whether one of the zones and tags is that
abbrev pub has_cell_by : {S : Type 0} → HashSet Group S → List ℕ → Option (List ℕ) → Bool
has_cell_by groups zone tag = contains same_group groups (record { zone = zone; tag = tag })

-- the zones are those of the site, and of each is known whether one of the cells is there and how many instances stand there
pub record IsZoning (site : Site) (cells : List Answer) (stays : List Stay) (zoning : Zoning) : Type 0 where
  pub zones : zoning.zones.items ≡ zone_names site
  pub groups : (zone : List ℕ) (tag : Option (List ℕ)) → has_cell_by zoning.groups zone tag ≡ has_cell cells zone tag
  pub counts : (process zone : List ℕ) → counted_at zoning.counts process zone ≡ instances_in stays process zone

-- whether the zone counts for the process, as it is looked up
abbrev pub is_zone_by : Zoning → Wanted → List ℕ → Bool
is_zone_by zoning w zone =
    has_cell_by zoning.groups zone w.tag || nat_lt 0 (counted_at zoning.counts w.key.process zone)

-- how many instances of the process the zone has, as it is looked up
abbrev pub zone_count_by : Zoning → Wanted → List ℕ → ZoneCount
zone_count_by zoning w zone = record { zone = zone; instances = counted_at zoning.counts w.key.process zone }

-- how many each of its zones has
abbrev pub zone_counts_by : Zoning → Wanted → List ZoneCount
zone_counts_by zoning w = map (zone_count_by zoning w) (filter (is_zone_by zoning w) zoning.zones.items)

-- how the process is spread, as it is looked up
abbrev pub uneven_by : Zoning → Wanted → Uneven
uneven_by zoning w = record {
  process = w.key.process;
  spread = spread_of (zone_counts_by zoning w);
  zones = zone_counts_by zoning w;
}
