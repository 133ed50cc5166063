-- The best cell for a job: the one of the least score among those that fit.
use Rattle.std.specs.Prelude.{◌≡◌, ℕ, ◌<◌, true, false, if◌then◌else◌, List, [], ◌∷◌, length, Option, Some, None, MatchOption, slice_index_or}
use Rattle.std.specs.List.{Contains}
use Rattle.cell_records.specs.declared.job.Job.{Job}
use Rattle.auction_scoring.specs.Order.{is_better}
use Rattle.auctioneer.specs.Stands.{can_take, score_in}
use Rattle.auctioneer.specs.declared.stand.Stand.{Stand}

-- it is one of these cells and fits, and none of them that fits is better
pub record IsLeast (stands : List Stand) (job : Job) (among : List Stand) (a : Stand) : Type 0 where
  pub inside : Contains among a
  pub fits : can_take job a ≡ true
  pub least : (b : Stand) → Contains among b → can_take job b ≡ true →
      is_better (score_in stands job.job b) (score_in stands job.job a) ≡ false

-- none of these cells fits
abbrev pub NoneFits : Job → List Stand → Type 0
NoneFits job among = (b : Stand) → Contains among b → can_take job b ≡ false

-- a cell is the least of these, and where there is no cell none fits
abbrev pub IsLeastOrNone : List Stand → Job → List Stand → Option Stand → Type 0
IsLeastOrNone stands job among found = MatchOption found (NoneFits job among) (IsLeast stands job among)

-- the first cell, unless the best of the others is better
abbrev pub better_one : List Stand → Job → Stand → Option Stand → Option Stand
better_one stands job s None = Some s
better_one stands job s (Some b) =
    if is_better (score_in stands job.job b) (score_in stands job.job s) then Some b else Some s

-- the best of some of the cells
abbrev pub best_in : List Stand → Job → List Stand → Option Stand
best_in stands job [] = None
best_in stands job (s ∷ ss) =
    if can_take job s then better_one stands job s (best_in stands job ss) else best_in stands job ss

-- the best of all cells
abbrev pub best : List Stand → Job → Option Stand
best stands job = best_in stands job stands

-- the best cell stands there
pub record IsBestAt (stands : List Stand) (job : Job) (at : ℕ) : Type 0 where
  pub inside : at < length stands
  pub best : (d : Stand) → best stands job ≡ Some (slice_index_or stands at d)
  pub fits : (d : Stand) → can_take job (slice_index_or stands at d) ≡ true
