-- A cell's rep, and what it says of the cell.
use Rattle.std.specs.Prelude.{ℕ, Bool, false, List, [], Option, Some, None, Result, Ok, Err}
use Rattle.std.specs.Option.{option_map, option_map_or}
use Rattle.cell_records.specs.declared.answer.Answer.{Answer}
use Rattle.cell_records.specs.declared.container.Container.{Container}
use Rattle.container_store.specs.Changes.{removing}
use Rattle.container_store.specs.Store.{StoreView, free_of}
use Rattle.container_store.specs.declared.refusal.StoreRefusal.{StoreRefusal}
use Rattle.container_store.specs.declared.refusal.StoreRefusal.TheVariants.{Unknown}
use Rattle.diego_names.specs.declared.instance.Instance.{Instance}
use Rattle.cell_rep.specs.declared.joined.Joined.{Joined}
use Rattle.cell_rep.specs.declared.rep.CellRep.{CellRep}

-- a rep that has not joined
abbrev pub new_rep : List ℕ → CellRep
new_rep cell = record { cell = cell; joined = None }

-- what a rep that has joined says of its cell
abbrev pub answer_in : List ℕ → Joined → Answer
answer_in cell j = record {
  cell = cell;
  zone = j.zone;
  tag = j.tag;
  epoch = j.store.epoch;
  evacuating = j.draining;
  totals = j.store.totals;
  free = free_of j.store;
  last = j.store.last;
  containers = j.store.containers;
}

-- what a rep says of its cell: nothing before it has joined
abbrev pub answer_of : CellRep → Option Answer
answer_of rep = option_map (answer_in rep.cell) rep.joined

-- what stands on the cell
abbrev pub containers_of : CellRep → List Container
containers_of rep = option_map_or (λ j. j.store.containers) rep.joined []

-- the cell is being emptied
abbrev pub is_draining : CellRep → Bool
is_draining rep = option_map_or (λ j. j.draining) rep.joined false

-- the rep with another store
abbrev pub with_store : CellRep → Joined → StoreView → CellRep
with_store rep j store = record rep { joined = Some (record j { store = store }) }

-- a rep with what came of its store
abbrev pub store_result : CellRep → Joined → Result StoreView StoreRefusal → Result CellRep StoreRefusal
store_result rep j (Ok store) = Ok (with_store rep j store)
store_result rep j (Err why) = Err why

-- what is asked of the store of a rep that has to have joined
abbrev pub asking : CellRep → Option Joined → (StoreView → Result StoreView StoreRefusal) → Result CellRep StoreRefusal
asking rep None ask = Err Unknown
asking rep (Some j) ask = store_result rep j (ask j.store)

-- a container is given up
abbrev pub stopping : CellRep → Instance → Result CellRep StoreRefusal
stopping rep i = asking rep rep.joined (λ s. removing s i)
