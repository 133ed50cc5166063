-- A cell that fits, by its place, with its score.
use Rattle.std.specs.Prelude.{◌≡◌, ◌<◌, true, if◌then◌else◌, List, length, Option, Some, None, MatchOption, slice_index_or}
use Rattle.cell_records.specs.declared.job.Job.{Job}
use Rattle.auction_scoring.specs.Order.{is_better}
use Rattle.auctioneer.specs.Least.{best_in}
use Rattle.auctioneer.specs.Stands.{can_take, score_in}
use Rattle.auctioneer.specs.declared.candidate.Candidate.{Candidate}
use Rattle.auctioneer.specs.declared.stand.Stand.{Stand}

-- the other, unless the best so far is better
abbrev pub better_candidate : Option Candidate → Candidate → Candidate
better_candidate None other = other
better_candidate (Some found) other = if is_better found.score other.score then found else other

-- the best of some of the cells, by its place among all
pub record IsCandidate (stands : List Stand) (job : Job) (among : List Stand) (c : Candidate) : Type 0 where
  pub inside : c.at < length stands
  pub score : (d : Stand) → c.score ≡ score_in stands job.job (slice_index_or stands c.at d)
  pub best : (d : Stand) → best_in stands job among ≡ Some (slice_index_or stands c.at d)
  pub fits : (d : Stand) → can_take job (slice_index_or stands c.at d) ≡ true

-- the best so far is that of these cells
abbrev pub TracksBest : List Stand → Job → List Stand → Option Candidate → Type 0
TracksBest stands job among found = MatchOption found (best_in stands job among ≡ None) (IsCandidate stands job among)
