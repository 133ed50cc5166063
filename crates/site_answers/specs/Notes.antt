-- What a dump tells that is modelled otherwise.
use Rattle.std.specs.Prelude.{ℕ, ◌+◌, Bool, false, ◌&&◌, ◌||◌, not, List, length, count_by, Option, Some, None, if◌then◌else◌}
use Rattle.std.specs.List.{flat_map, list_any}
use Rattle.auctioneer.specs.Stands.{same_name}
use Rattle.dump_lines.specs.declared.cell_state.InstanceOnCell.{InstanceOnCell}
use Rattle.dump_reader.specs.declared.dump.Dump.{Dump}
use Rattle.forecast_records.specs.declared.notes.Notes.{Notes}
use Rattle.what_if.specs.Sites.{has_started, has_told, is_some_row, key_of, proxy_of, silent_of, wanted_of}
use Rattle.what_if.specs.Stays.{same_key}

-- whether a line names the cell
abbrev pub is_named : Dump → Option (List ℕ) → Bool
is_named dump None = false
is_named dump (Some cell) = has_told dump.states cell || list_any (λ p. same_name cell p.cell) dump.listed

-- whether the instance is wanted
abbrev pub is_wanted : Dump → InstanceOnCell → Bool
is_wanted dump i = list_any (λ w. same_key (key_of i) w.key) (wanted_of dump)

-- all instances on cells that told their state
abbrev pub instances_of : Dump → List InstanceOnCell
instances_of dump = flat_map (λ s. s.instances) dump.states

-- what a dump tells that is modelled otherwise
abbrev pub notes_of : Dump → Notes
notes_of dump = record {
  instances_from_containers = if is_some_row dump.desired then 0 else length (wanted_of dump);
  optional_tags = count_by (λ s. s.has_optional_tags) dump.states;
  proxy_memory = proxy_of dump;
  rows_of_no_cell = count_by (λ r. has_started r.state && not (is_named dump r.cell)) dump.actual;
  silent_cells = length (silent_of dump);
  strays =
      if is_some_row dump.desired then count_by (λ i. not i.ended && not (is_wanted dump i)) (instances_of dump) else 0;
  volume_drivers =
      count_by (λ i. i.has_volume_drivers) (instances_of dump)
      + count_by (λ d. d.has_volume_drivers || d.has_volume_mounts) dump.desired;
}
