-- How it is looked up what a dump tells that is modelled otherwise.
use Rattle.std.specs.Prelude.{ℕ, Bool, false, ◌&&◌, not, List, count_by, Option, Some, None, if◌then◌else◌}
use Rattle.std.specs.HashSet.{HashSet, contains}
use Rattle.std.specs.List.{list_any}
use Rattle.auctioneer.specs.Stands.{same_name}
use Rattle.dump_lines.specs.declared.cell_state.InstanceOnCell.{InstanceOnCell}
use Rattle.dump_lines.specs.declared.rows.ActualRow.{ActualRow}
use Rattle.dump_reader.specs.declared.dump.Dump.{Dump}
use Rattle.site_answers.specs.Notes.{instances_of}
use Rattle.site_answers.specs.declared.notes.Noted.{Noted}
use Rattle.site_answers.specs.declared.notes.Noted.TheVariants.{Strays, VolumeDrivers}
use Rattle.what_if.specs.Sites.{has_started, is_some_row, key_of}
use Rattle.what_if.specs.Stays.{same_key}
use Rattle.what_if.specs.declared.site.Wanted.{Wanted}

-- whether the cell is one of the names
abbrev pub is_named_by : {S : Type 0} → HashSet (List ℕ) S → Option (List ℕ) → Bool
is_named_by named None = false
is_named_by named (Some cell) = contains same_name named cell

-- whether the row is claimed or running on a cell that is none of the names
abbrev pub is_of_no_cell_by : {S : Type 0} → HashSet (List ℕ) S → ActualRow → Bool
is_of_no_cell_by named r = has_started r.state && not (is_named_by named r.cell)

-- whether the instance is counted
abbrev pub is_noted : Noted → InstanceOnCell → Bool
is_noted (Strays wanted) i = not i.ended && not (contains same_key wanted.now (key_of i))
is_noted VolumeDrivers i = i.has_volume_drivers

-- whether the instance has not ended and is none of these
abbrev pub is_stray : List Wanted → InstanceOnCell → Bool
is_stray wanted i = not i.ended && not (list_any (λ w. same_key (key_of i) w.key) wanted)

-- how many are so, where there are desired processes
abbrev pub strays_of : Dump → List Wanted → ℕ
strays_of dump wanted = if is_some_row dump.desired then count_by (is_stray wanted) (instances_of dump) else 0
