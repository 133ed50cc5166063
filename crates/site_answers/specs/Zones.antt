-- What the cells of each zone and tag have.
use Rattle.std.specs.Prelude.{List, map, filter, length}
use Rattle.std.specs.List.{flat_map}
use Rattle.row_tables.specs.Table.{table}
use Rattle.cell_records.specs.declared.answer.Answer.{Answer}
use Rattle.auctioneer.specs.declared.stand.Stand.{Stand}
use Rattle.forecast_records.specs.declared.stock.ZoneNow.{ZoneNow}
use Rattle.forecast_records.specs.declared.stock.ZoneThen.{ZoneThen}
use Rattle.forecast_records.specs.declared.stock.ZoneTotals.{ZoneTotals}
use Rattle.what_if.specs.Stays.{stays_on}
use Rattle.site_answers.specs.Sums.{most_of, sums_of}
use Rattle.site_spread.specs.Groups.{group_of, group_order, is_in}
use Rattle.site_spread.specs.declared.group.Group.{Group}
use Rattle.what_if.specs.declared.site.Site.{Site}

-- the zones and tags of the cells that told their state, each once
abbrev pub groups_of : Site → List Group
groups_of site = table group_order (λ g. g) (map group_of site.cells)

-- the cells of the zone and the tag
abbrev pub cells_in : Site → Group → List Answer
cells_in site g = filter (λ c. is_in g c.zone c.tag) site.cells

-- what these have
abbrev pub zone_totals : Site → Group → ZoneTotals
zone_totals site g = record {
  zone = g.zone;
  tag = g.tag;
  cells = length (cells_in site g);
  total = sums_of (map (λ c. c.totals) (cells_in site g));
  free = sums_of (map (λ c. c.free) (cells_in site g));
}

-- what stands there now
abbrev pub zone_now : Site → Group → ZoneNow
zone_now site g = record {
  of = zone_totals site g;
  instances = length (flat_map stays_on (cells_in site g));
  most_free = most_of (map (λ c. c.free) (cells_in site g));
}

-- each zone and tag, with what stands there now
abbrev pub zones_now : Site → List ZoneNow
zones_now site = map (zone_now site) (groups_of site)

-- the open cells of the zone and the tag, as an auction leaves them
abbrev pub stands_in : List Stand → Group → List Stand
stands_in stands g = filter (λ s. is_in g s.zone s.tag) stands

-- what is left there once all is placed
abbrev pub zone_then : Site → List Stand → Group → ZoneThen
zone_then site stands g = record {
  of = zone_totals site g;
  cells_left = length (stands_in stands g);
  free_left = sums_of (map (λ s. s.free) (stands_in stands g));
}

-- each zone and tag, with what is left once all is placed
abbrev pub zones_then : Site → List Stand → List ZoneThen
zones_then site stands = map (zone_then site stands) (groups_of site)
