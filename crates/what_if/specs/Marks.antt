-- What is looked up of a dump for each of its instances.
use Rattle.std.specs.Prelude.{◌≡◌, ℕ, ◌+◌, List, [], ◌∷◌, map}
use Rattle.std.specs.HashSet.{contains}
use Rattle.std.specs.List.{filter_map, flat_map, slice_get}
use Rattle.diego_names.specs.declared.key.Key.{Key}
use Rattle.diego_names.specs.Order.{name_order}
use Rattle.row_tables.specs.Table.{table}
use Rattle.dump_lines.specs.declared.cell_state.CellState.{CellState}
use Rattle.dump_reader.specs.declared.dump.Dump.{Dump}
use Rattle.what_if.specs.Sites.{instances_there, is_crashed, proxy_of}
use Rattle.what_if.specs.Stays.{same_key}
use Rattle.what_if.specs.declared.site.Wanted.{Wanted}
use Rattle.what_if.specs.declared.wanting.Marked.{Marked}

-- the proxy's memory and the crashed instances are those of the dump
pub record AreMarks (marked : Marked) : Type 0 where
  pub proxy : marked.proxy ≡ proxy_of marked.dump.now
  pub crashed : (key : Key) → contains same_key marked.crashed key ≡ is_crashed marked.dump.now.actual key

-- cells with their places, counted from there
abbrev pub placed_from : ℕ → List CellState → List (List ℕ × ℕ)
placed_from n [] = []
placed_from n (s ∷ ss) = (s.place.cell, n) ∷ placed_from (n + 1) ss

-- the places of the states in the order of their cells
abbrev pub order_of : List CellState → List ℕ
order_of states = map (λ p. p.1) (table name_order (λ p. p.0) (placed_from 0 states))

-- the instances that have a container on the cells at these places
abbrev pub there_at : Dump → List ℕ → List Wanted
there_at dump places = flat_map (instances_there dump) (filter_map (slice_get dump.states) places)
