-- What is looked up of where instances stand is what the definitions say.
use Rattle.std.proofs.Common.{◌≡◌, ℕ, ◌==◌, ◌&&◌, ◌||◌, nat_le, nat_lt, cond, List, map, filter, Option, Some, None, refl, sym, ap, subst, ◌∙◌}
use Rattle.std.specs.List.{find, list_any}
use Rattle.std.specs.Option.{option_and_then, option_eq, option_map}
use Rattle.std.proofs.lemmas.Simd.{map-map}
use Rattle.diego_names.specs.Order.{name_order}
use Rattle.diego_names.proofs.Public.{IsKeyOrder-name_order}
use Rattle.row_tables.proofs.Public.{IsRising-table}
use Rattle.cell_records.specs.declared.answer.Answer.{Answer}
use Rattle.auctioneer.specs.Stands.{same_name}
use Rattle.dump_lines.specs.declared.cell_state.Place.{Place}
use Rattle.forecast_records.specs.declared.spread.InOneZone.{InOneZone}
use Rattle.forecast_records.specs.declared.spread.OnOneCell.{OnOneCell}
use Rattle.forecast_records.specs.declared.spread.Uneven.{Uneven}
use Rattle.forecast_records.specs.declared.spread.ZoneCount.{ZoneCount}
use Rattle.site_spread.specs.Groups.{group_of}
use Rattle.site_spread.specs.Spots.{IsZoning, is_zone_by, same_group, uneven_by, zone_count_by, zone_counts_by}
use Rattle.site_spread.specs.Together.{AreTallies, in_zone_by, on_cell_by, one_cell_by, one_zone_by, place_of}
use Rattle.site_spread.specs.Spread.{has_cell, instances_in, is_of_process, is_uneven, is_zone_of, one_cell_at, one_zone_at, processes, spread_of, uneven_at, uneven_in, zone_counts, zone_names}
use Rattle.site_spread.specs.declared.group.Group.{Group}
use Rattle.site_spread.specs.declared.spread.Zoning.{Zoning}
use Rattle.site_spread.specs.declared.tallies.Tallies.{Tallies}
use Rattle.what_if.specs.declared.site.Site.{Site}
use Rattle.what_if.specs.declared.site.Stay.{Stay}
use Rattle.what_if.specs.declared.site.Wanted.{Wanted}
use Rattle.what_if.proofs.Agreeing.{and_then-same, any-map, any-same, filter-same, map-same}
use Rattle.what_if.proofs.Differing.{Differ, differ-from_rising}
use Rattle.what_if.proofs.Lists.{filter_differs}
use Rattle.what_if.proofs.Names.{names_turned, tags_turned}

-- a zone and a tag are among those of the cells
pub has_cell-groups : (cells : List Answer) (zone : List ℕ) (tag : Option (List ℕ))
    → list_any (λ g. same_group g (record { zone = zone; tag = tag })) (map group_of cells) ≡ has_cell cells zone tag
has_cell-groups cells zone tag =
    let g : Group = record { zone = zone; tag = tag } in
    any-map (λ k. same_group k g) group_of cells
    ∙ any-same (λ (c : Answer). same_group (group_of c) g) (λ c. same_name zone c.zone && option_eq same_name tag c.tag)
    (λ c i. names_turned c.zone zone i && tags_turned c.tag tag i) cells

module _ {site : Site} {cells : List Answer} {stays : List Stay} {zoning : Zoning}
    (h : IsZoning site cells stays zoning) (w : Wanted) where
  is_zone-by : (zone : List ℕ) → is_zone_by zoning w zone ≡ is_zone_of cells stays w zone
  is_zone-by zone = λ i. h.groups zone w.tag i || nat_lt 0 (h.counts w.key.process zone i)

  abbrev count_in : List ℕ → ZoneCount
  count_in zone = record { zone = zone; instances = instances_in stays w.key.process zone }

  zone_count-by : (zone : List ℕ) → zone_count_by zoning w zone ≡ count_in zone
  zone_count-by zone = λ i. record { zone = zone; instances = h.counts w.key.process zone i }

  zone_counts-by : zone_counts_by zoning w ≡ zone_counts site cells stays w
  zone_counts-by =
      ap (λ (zs : List (List ℕ)). map (zone_count_by zoning w) (filter (is_zone_by zoning w) zs)) h.zones
      ∙ ap (map (zone_count_by zoning w)) (filter-same (is_zone_by zoning w) (is_zone_of cells stays w) is_zone-by
      (zone_names site))
      ∙ map-same (zone_count_by zoning w) count_in zone_count-by (filter (is_zone_of cells stays w) (zone_names site))

  pub uneven-by : uneven_by zoning w ≡ uneven_at site cells stays w
  uneven-by = λ i. record {
    process = w.key.process;
    spread = spread_of (zone_counts-by i);
    zones = zone_counts-by i;
  }

-- what follows from the place of an instance
then_of_place : {Y : Type 0} (f : Place → Option Y) (o : Option Stay)
    → option_and_then f (option_map place_of o) ≡ option_and_then (λ (s : Stay). f (place_of s)) o
then_of_place f None = refl
then_of_place f (Some s) = refl

module _ {stays : List Stay} {tallies : Tallies} (h : AreTallies stays tallies) where
  abbrev one_cell : List ℕ → Stay → ℕ → ℕ → Option OnOneCell
  one_cell process s all here =
      cond (nat_le 2 all && (all == here)) (Some (record {
        process = process;
        instances = all;
        cell = s.cell;
        zone =
            s.zone;
      })) None

  one_cell-by : (process : List ℕ) (s : Stay) → one_cell_by tallies process (place_of s) ≡ one_cell_at stays process s
  one_cell-by process s = λ i. one_cell process s (h.standing process i) (h.on_cell process s.cell i)

  pub on_cell-by : (w : Wanted) → on_cell_by tallies w ≡ option_and_then (one_cell_at stays w.key.process)
      (find (is_of_process w.key.process) stays)
  on_cell-by w =
      ap (option_and_then (one_cell_by tallies w.key.process)) (h.first w.key.process)
      ∙ then_of_place (one_cell_by tallies w.key.process) (find (is_of_process w.key.process) stays)
      ∙ and_then-same (λ (s : Stay). one_cell_by tallies w.key.process (place_of s)) (one_cell_at stays w.key.process)
      (one_cell-by w.key.process) (find (is_of_process w.key.process) stays)

  abbrev one_zone : List ℕ → Stay → ℕ → ℕ → Option InOneZone
  one_zone process s all here =
      cond (nat_le 2 all && (all == here)) (Some (record { process = process; instances = all; zone = s.zone })) None

  one_zone-by : (process : List ℕ) (s : Stay) → one_zone_by tallies process (place_of s) ≡ one_zone_at stays process s
  one_zone-by process s = λ i. one_zone process s (h.standing process i) (h.in_zone process s.zone i)

  pub in_zone-by : (w : Wanted) → in_zone_by tallies w ≡ option_and_then (one_zone_at stays w.key.process)
      (find (is_of_process w.key.process) stays)
  in_zone-by w =
      ap (option_and_then (one_zone_by tallies w.key.process)) (h.first w.key.process)
      ∙ then_of_place (one_zone_by tallies w.key.process) (find (is_of_process w.key.process) stays)
      ∙ and_then-same (λ (s : Stay). one_zone_by tallies w.key.process (place_of s)) (one_zone_at stays w.key.process)
      (one_zone-by w.key.process) (find (is_of_process w.key.process) stays)

-- no two uneven processes are one
pub uneven_differ : (site : Site) (cells : List Answer) (stays : List Stay)
    → Differ (map (λ (u : Uneven). u.process) (uneven_in site cells stays))
uneven_differ site cells stays =
    let all = processes site in
    filter_differs (λ (u : Uneven). u.process) is_uneven (map (uneven_at site cells stays) all)
    (subst Differ (sym (map-map (λ (u : Uneven). u.process) (uneven_at site cells stays) all))
    (differ-from_rising name_order (λ (w : Wanted). w.key.process) IsKeyOrder-name_order all
    (IsRising-table name_order (λ (w : Wanted). w.key.process) IsKeyOrder-name_order site.wanted)))
