-- The laws of what finds room. No scheduler is named in those of placings: they hold of any.
use Rattle.std.specs.Prelude.{◌≡◌, ◌≢◌, ℕ, ◌≤◌, true, ◌&&◌, not, min, List, length, count_by}
use Rattle.std.specs.List.{All, Contains}
use Rattle.row_tables.specs.Table.{IsRising}
use Rattle.diego_names.specs.Order.{name_order}
use Rattle.cell_records.specs.declared.job.Job.{Job}
use Rattle.cell_records.specs.declared.job_name.JobName.{JobName}
use Rattle.auctioneer.specs.Asked.{AreJobs}
use Rattle.auctioneer.specs.Auction.{auction_from}
use Rattle.auctioneer.specs.Least.{NoneFits}
use Rattle.auctioneer.specs.Stands.{can_take}
use Rattle.auctioneer.specs.declared.stand.Stand.{Stand}
use Rattle.room_facts.specs.Lacks.{has_tag, lacks, nothing, same_lacks, lacks_just}
use Rattle.room_facts.specs.Placings.{IsPlacing, IsAlike, GoesBy, is_placed}
use Rattle.room_facts.specs.Reasons.{reasons_of, counted, counted_in_all}
use Rattle.room_facts.specs.Rooms.{room_for, of_tag, is_short}
use Rattle.room_facts.specs.declared.lacking.Lacking.{Lacking}
use Rattle.room_facts.specs.declared.reasons.Reasons.{Reasons}

-- a cell fits a job exactly if it has the job's tag and lacks nothing
abbrev pub JobsFitWhereNothingLacks : Type 0
JobsFitWhereNothingLacks =
    (job : Job) (s : Stand) → can_take job s ≡ (has_tag job.tag s && same_lacks (lacks job s) nothing)

-- each cell is counted once: under its tag if that is another, else under just those amounts of which it has too little
pub record CountsEachOnce (job : Job) (stands : List Stand) (r : Reasons) : Type 0 where
  pub other_tag : r.other_tag ≡ count_by (λ s. not (has_tag job.tag s)) stands
  pub lacking : (a : Lacking) → counted r a ≡ count_by (lacks_just a job) stands
  pub some : (s : Stand) → Contains stands s → has_tag job.tag s ≡ true → lacks job s ≢ nothing
  pub all : counted_in_all r ≡ length stands
  pub cells : r.cells ≡ length stands

-- where a job fits nowhere, its reasons count each cell once
abbrev pub ReasonsAreExact : Type 0
ReasonsAreExact =
    (job : Job) (stands : List Stand) → NoneFits job stands → CountsEachOnce job stands (reasons_of job stands)

-- where it is shown that there is too little, no function from the tag's jobs to cells is a placing
abbrev pub ShortHasNoPlacing : Type 0
ShortHasNoPlacing =
    (stands : List Stand) (jobs : List Job) (job : Job) → is_short stands jobs job ≡ true →
    (on : JobName → List ℕ) → IsPlacing stands (of_tag job.tag jobs) on → ⊥

-- so none of all jobs is one either
abbrev pub ShortHasNoPlacingOfAll : Type 0
ShortHasNoPlacingOfAll =
    (stands : List Stand) (jobs : List Job) (job : Job) → is_short stands jobs job ≡ true →
    (on : JobName → List ℕ) → IsPlacing stands jobs on → ⊥

-- where the auction gives each job a cell, whoever goes by its placements has a placing
abbrev pub AuctionIsAPlacing : Type 0
AuctionIsAPlacing =
    (stands : List Stand) (jobs : List Job) → IsRising name_order (λ s. s.cell) stands →
    All (λ p. is_placed p ≡ true) (auction_from stands jobs) →
    (on : JobName → List ℕ) → All (GoesBy on) (auction_from stands jobs) → IsPlacing stands jobs on

-- and where the names of the jobs differ, there is one who does
abbrev pub RoomIsAPlacing : Type 0
RoomIsAPlacing =
    (stands : List Stand) (jobs : List Job) → IsRising name_order (λ s. s.cell) stands → AreJobs jobs →
    All (λ p. is_placed p ≡ true) (auction_from stands jobs) →
    (on : JobName → List ℕ) × All (GoesBy on) (auction_from stands jobs) × IsPlacing stands jobs on

-- of jobs alike the auction places as many as there are, or as there is room for
abbrev pub AlikeJobsFill : Type 0
AlikeJobsFill =
    (size : Job) (stands : List Stand) (jobs : List Job) → IsRising name_order (λ s. s.cell) stands →
    All (IsAlike size) jobs → count_by is_placed (auction_from stands jobs) ≡ min (length jobs) (room_for size stands)

-- and no placing has more than there is room for
abbrev pub NoPlacingHasMore : Type 0
NoPlacingHasMore =
    (size : Job) (stands : List Stand) (jobs : List Job) → All (IsAlike size) jobs →
    (on : JobName → List ℕ) → IsPlacing stands jobs on → length jobs ≤ room_for size stands
