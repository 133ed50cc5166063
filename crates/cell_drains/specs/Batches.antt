-- The batches in which an update empties cells.
use Rattle.std.specs.Prelude.{ℕ, Bool, ◌&&◌, nat_lt, if◌then◌else◌, List, [], ◌∷◌, ◌++◌, length}
use Rattle.std.specs.Option.{option_eq}
use Rattle.auctioneer.specs.Stands.{same_name}
use Rattle.cell_drains.specs.declared.batches.Batch.{Batch}
use Rattle.cell_drains.specs.declared.seats.Seat.{Seat}

-- a batch of this cell alone
abbrev pub begun_with : Seat → Batch
begun_with s = record { zone = s.zone; tag = s.tag; cells = s.cell ∷ [] }

-- whether the batch may have the cell too: it has fewer than so many, of the cell's zone and tag
abbrev pub takes : ℕ → Batch → Seat → Bool
takes most batch s =
    nat_lt (length batch.cells) most && (same_name batch.zone s.zone && option_eq same_name batch.tag s.tag)

-- the batch with the cell behind its own
abbrev pub joined_by : Batch → Seat → Batch
joined_by batch s = record batch { cells = batch.cells ++ s.cell ∷ [] }

-- the batches of the cells that follow, the first of which is begun
abbrev pub batches_from : ℕ → Batch → List Seat → List Batch
batches_from most batch [] = batch ∷ []
batches_from most batch (s ∷ ss) =
    if takes most batch s then batches_from most (joined_by batch s) ss else batch ∷ batches_from most (begun_with s) ss

-- the cells in their order, cut into batches of one zone and one tag, with at most so many cells and at least one
abbrev pub batches : ℕ → List Seat → List Batch
batches most [] = []
batches most (s ∷ ss) = batches_from most (begun_with s) ss
