-- What an auction asks of its jobs and its cells.
use Rattle.std.specs.Prelude.{◌≢◌, ◌+◌, ◌^◌, ◌<◌, ◌≤◌, List, length, map}
use Rattle.std.specs.List.{All, AllPairs}
use Rattle.diego_names.specs.Order.{name_order}
use Rattle.row_tables.specs.Table.{IsRising}
use Rattle.cell_records.specs.declared.answer.Answer.{Answer}
use Rattle.cell_records.specs.declared.job.Job.{Job}
use Rattle.auction_scoring.specs.Fits.{IsWithin}
use Rattle.auctioneer.specs.declared.stand.Stand.{Stand}

-- no two jobs have one name
abbrev pub AreJobs : List Job → Type 0
AreJobs jobs = AllPairs (λ a b. a ≢ b) (map (λ j. j.job) jobs)

-- what is free is within the totals, and so is the number of containers
pub record IsSoundAnswer (a : Answer) : Type 0 where
  pub within : IsWithin a.free a.totals
  pub containers : length a.containers ≤ a.totals.containers

-- at most 1,000 cells, no two of one name, each with sound sums
pub record AreAnswers (answers : List Answer) : Type 0 where
  pub few : length answers ≤ 1000
  pub differ : AllPairs (λ a b. a ≢ b) (map (λ a. a.cell) answers)
  pub each : All IsSoundAnswer answers

-- what is free is within the totals, and the cell has few containers
pub record IsSoundStand (s : Stand) : Type 0 where
  pub within : IsWithin s.free s.totals
  pub few : length s.jobs + s.free.containers < 2 ^ 33

-- the cells at every moment of an auction
pub record AreStands (stands : List Stand) : Type 0 where
  pub few : length stands ≤ 1000
  pub rising : IsRising name_order (λ s. s.cell) stands
  pub each : All IsSoundStand stands
