-- How processes are spread over zones and cells.
use Rattle.std.specs.Prelude.{ℕ, ◌-◌, ◌==◌, Bool, ◌&&◌, ◌||◌, nat_le, nat_lt, List, ◌++◌, map, filter, fold, count_by, max, min, Option, Some, None, if◌then◌else◌}
use Rattle.std.specs.List.{filter_map, find, list_any}
use Rattle.std.specs.Option.{option_eq, option_and_then}
use Rattle.std.specs.Ordering.{nat_cmp, on, flip_args, then_cmp}
use Rattle.std.specs.declared.cmp.Ordering.{Ordering}
use Rattle.diego_names.specs.Order.{name_order}
use Rattle.row_tables.specs.Table.{table}
use Rattle.cell_records.specs.declared.answer.Answer.{Answer}
use Rattle.auctioneer.specs.Stands.{same_name}
use Rattle.forecast_records.specs.declared.spread.InOneZone.{InOneZone}
use Rattle.forecast_records.specs.declared.spread.OnOneCell.{OnOneCell}
use Rattle.forecast_records.specs.declared.spread.Uneven.{Uneven}
use Rattle.forecast_records.specs.declared.spread.ZoneCount.{ZoneCount}
use Rattle.site_spread.specs.declared.uneven.Unevenness.{Unevenness}
use Rattle.what_if.specs.declared.site.Site.{Site}
use Rattle.what_if.specs.declared.site.Stay.{Stay}
use Rattle.what_if.specs.declared.site.Wanted.{Wanted}

-- the processes that are wanted, by name, each by its first instance
abbrev pub processes : Site → List Wanted
processes site = table name_order (λ w. w.key.process) site.wanted

-- the zones of the cells that told their state, and of the silent ones, by name
abbrev pub zone_names : Site → List (List ℕ)
zone_names site = table name_order (λ z. z) (map (λ c. c.zone) site.cells ++ map (λ p. p.zone) site.silent)

-- whether an instance of the process stands there
abbrev pub is_of_process : List ℕ → Stay → Bool
is_of_process process s = same_name process s.key.process

-- how many instances of the process stand in the zone
abbrev pub instances_in : List Stay → List ℕ → List ℕ → ℕ
instances_in stays process zone = count_by (λ s. is_of_process process s && same_name zone s.zone) stays

-- how many stand on the cell
abbrev pub instances_on : List Stay → List ℕ → List ℕ → ℕ
instances_on stays process cell = count_by (λ s. is_of_process process s && same_name cell s.cell) stays

-- whether one of the cells is in the zone and has the tag
abbrev pub has_cell : List Answer → List ℕ → Option (List ℕ) → Bool
has_cell cells zone tag = list_any (λ c. same_name zone c.zone && option_eq same_name tag c.tag) cells

-- whether the zone counts for the process: an open cell there has its tag, or an instance of it stands there
abbrev pub is_zone_of : List Answer → List Stay → Wanted → List ℕ → Bool
is_zone_of cells stays w zone = has_cell cells zone w.tag || nat_lt 0 (instances_in stays w.key.process zone)

-- how many instances of the process each of its zones has
abbrev pub zone_counts : Site → List Answer → List Stay → Wanted → List ZoneCount
zone_counts site cells stays w =
    map (λ z. record { zone = z; instances = instances_in stays w.key.process z })
    (filter (is_zone_of cells stays w) (zone_names site))

-- the most that one has
abbrev pub most_in : List ZoneCount → ℕ
most_in counts = fold (λ m c. max m c.instances) 0 counts

-- the most that one has less the least
abbrev pub spread_of : List ZoneCount → ℕ
spread_of counts = most_in counts - fold (λ m c. min m c.instances) (most_in counts) counts

-- how a process is spread
abbrev pub uneven_at : Site → List Answer → List Stay → Wanted → Uneven
uneven_at site cells stays w = record {
  process = w.key.process;
  spread = spread_of (zone_counts site cells stays w);
  zones = zone_counts site cells stays w;
}

-- whether zones of it differ by two or more
abbrev pub is_uneven : Uneven → Bool
is_uneven u = nat_le 2 u.spread

-- the uneven processes, by name, with these cells open and where instances stand
abbrev pub uneven_in : Site → List Answer → List Stay → List Uneven
uneven_in site cells stays = filter is_uneven (map (uneven_at site cells stays) (processes site))

-- what decides where it is told
abbrev pub unevenness : Uneven → Unevenness
unevenness u = record { spread = record { 0 = u.spread }; process = u.process }

-- the larger spread first, then by name
abbrev pub uneven_order : Unevenness → Unevenness → Ordering
uneven_order = then_cmp (on (λ u. u.spread.0) (flip_args nat_cmp)) (on (λ u. u.process) name_order)

-- the same, the larger spread first
abbrev pub by_spread : List Uneven → List Uneven
by_spread us = table uneven_order unevenness us

-- how many instances of the process stand somewhere
abbrev pub standing : List Stay → List ℕ → ℕ
standing stays process = count_by (is_of_process process) stays

-- the process, if two or more of it stand somewhere, and all on the cell of the first
abbrev pub one_cell_at : List Stay → List ℕ → Stay → Option OnOneCell
one_cell_at stays process s =
    if nat_le 2 (standing stays process) && (standing stays process == instances_on stays process s.cell)
    then Some (record { process = process; instances = standing stays process; cell = s.cell; zone = s.zone })
    else None

-- the processes of two instances or more that are all on one cell, by name
abbrev pub on_one_cell : Site → List Stay → List OnOneCell
on_one_cell site stays =
    filter_map (λ w. option_and_then (one_cell_at stays w.key.process) (find (is_of_process w.key.process) stays))
    (processes site)

-- the process, if two or more of it stand somewhere, and all in the zone of the first
abbrev pub one_zone_at : List Stay → List ℕ → Stay → Option InOneZone
one_zone_at stays process s =
    if nat_le 2 (standing stays process) && (standing stays process == instances_in stays process s.zone)
    then Some (record { process = process; instances = standing stays process; zone = s.zone })
    else None

-- the processes of two instances or more that are all in one zone, by name
abbrev pub in_one_zone : Site → List Stay → List InOneZone
in_one_zone site stays =
    filter_map (λ w. option_and_then (one_zone_at stays w.key.process) (find (is_of_process w.key.process) stays))
    (processes site)
