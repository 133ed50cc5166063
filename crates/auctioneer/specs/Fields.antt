-- What is kept of the cells of an auction.
use Rattle.std.specs.Prelude.{◌≡◌, ℕ, ◌<◌, true, false, List, length, Option, Some, None, IfSome, slice_index_or}
use Rattle.diego_names.specs.declared.key.Key.{Key}
use Rattle.cell_records.specs.declared.job.Job.{Job}
use Rattle.cell_records.specs.declared.job_name.JobName.{JobName}
use Rattle.cell_records.specs.declared.job_name.JobName.TheVariants.{Lrp}
use Rattle.auction_scoring.specs.Order.{is_better}
use Rattle.auctioneer.specs.Asked.{AreStands}
use Rattle.auctioneer.specs.Needs.{asks_for}
use Rattle.auctioneer.specs.Refused.{AreRefused}
use Rattle.auctioneer.specs.Spots.{IsRanking}
use Rattle.auctioneer.specs.Stands.{can_take, score_in}
use Rattle.auctioneer.specs.Tallies.{HasRoomFor, CountsAt}
use Rattle.auctioneer.specs.declared.candidate.Candidate.{Candidate}
use Rattle.auctioneer.specs.declared.field.Field.{Field}
use Rattle.auctioneer.specs.declared.field.Own.{Own}
use Rattle.auctioneer.specs.declared.groups.Group.{Group}
use Rattle.auctioneer.specs.declared.spots.Spot.{Spot}
use Rattle.auctioneer.specs.declared.spots.Spots.{Spots}
use Rattle.auctioneer.specs.declared.stand.Stand.{Stand}
use Rattle.auctioneer.specs.declared.tally.Place.TheVariants.{Zone, Cell}

-- the order serves for the instances of its process
abbrev pub ServesOwn : List Group → List Stand → Own → Type 0
ServesOwn groups stands own = (key : Key) → key.process ≡ own.process → IsRanking (Lrp key) groups stands own.spots

-- the spots serve for every job that asks for what is needed
abbrev pub ServesEach : List Group → List Stand → Spots → Type 0
ServesEach groups stands spots = (job : JobName) → IsRanking job groups stands spots

-- orders and tallies are those of the cells, one order serves for every job, and jobs of the refused sizes fit nowhere
pub record IsFieldOf (f : Field) : Type 0 where
  pub sound : AreStands f.stands.items
  pub common : ServesEach f.groups.items f.stands.items f.common
  pub whole : (job : Job) → asks_for job f.common.need ≡ true
  pub lean : IfSome f.lean (ServesEach f.groups.items f.stands.items)
  pub own : IfSome f.own (ServesOwn f.groups.items f.stands.items)
  pub zones : CountsAt Zone f.in_zones f.stands.items
  pub cells : CountsAt Cell f.on_cells f.stands.items
  pub refused : AreRefused f.stands.items f.refused.items

-- one container more of the job on the cell at that place is counted without memory
pub record CanCount (f : Field) (job : Job) (at : ℕ) : Type 0 where
  pub zone : (s : Stand) → HasRoomFor f.in_zones job.job (slice_index_or f.stands.items at s).zone
  pub cell : (s : Stand) → HasRoomFor f.on_cells job.job (slice_index_or f.stands.items at s).cell

-- the candidate is one of the cells, with its score, and fits
pub record IsFitting (stands : List Stand) (job : Job) (c : Candidate) : Type 0 where
  pub inside : c.at < length stands
  pub score : (s : Stand) → c.score ≡ score_in stands job.job (slice_index_or stands c.at s)
  pub fits : (s : Stand) → can_take job (slice_index_or stands c.at s) ≡ true

-- the best so far is no worse than the cell, or the cell doesn't fit
abbrev pub IsNoWorse : List Stand → Job → Option Candidate → Stand → Type 0
IsNoWorse stands job None s = can_take job s ≡ false
IsNoWorse stands job (Some c) s = can_take job s ≡ true → is_better (score_in stands job.job s) c.score ≡ false

-- the best so far is a cell that fits, and no worse than those that were looked at, as their spots say
pub record IsBestOf (stands : List Stand) (spots : List Spot) (job : Job) (seen : Spot → Type 0)
    (found : Option Candidate)
    : Type 0 where
  pub fitting : IfSome found (IsFitting stands job)
  pub no_worse : (k : ℕ) (s : Stand) (p : Spot) → k < length stands →
      seen (slice_index_or spots k p) → IsNoWorse stands job found (slice_index_or stands k s)
