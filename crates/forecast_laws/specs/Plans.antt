-- Where a plan places jobs just as the round does.
use Rattle.std.specs.Prelude.{◌≡◌, ℕ, List}
use Rattle.std.specs.List.{AllZip, Contains}
use Rattle.auctioneer.specs.Stands.{held_of, stand_of}
use Rattle.auctioneer.specs.declared.stand.Stand.{Stand}
use Rattle.cell_records.specs.declared.answer.Answer.{Answer}
use Rattle.cell_records.specs.declared.job_name.JobName.{JobName}
use Rattle.convergence.specs.declared.report.Report.{Report}
use Rattle.converge_round.specs.Jobs.{jobs}
use Rattle.converge_round.specs.Rounds.{Standing, IsRound}
use Rattle.converge_round.specs.declared.placing.Places.{Places}
use Rattle.crash_backoff.specs.declared.moment.Moment.{Moment}
use Rattle.what_if.specs.Plans.{plan}
use Rattle.what_if.specs.Stays.{open_cells}
use Rattle.what_if.specs.Waiting.{waits}
use Rattle.what_if.specs.declared.site.Site.{Site}

-- two lists have the same elements, in whatever order
pub record HaveTheSame {X : Type 0} (xs ys : List X) : Type 0 where
  pub there : (x : X) → Contains xs x → Contains ys x
  pub back : (x : X) → Contains ys x → Contains xs x

-- an auction reads the same of both cells: one name, zone and tag, the same amounts, and of each process as many
-- containers that have not ended
pub record IsReadAlike (s t : Stand) : Type 0 where
  pub cell : s.cell ≡ t.cell
  pub zone : s.zone ≡ t.zone
  pub tag : s.tag ≡ t.tag
  pub totals : s.totals ≡ t.totals
  pub free : s.free ≡ t.free
  pub held : (job : JobName) → held_of job s ≡ held_of job t

-- the same of cells as they answered
abbrev pub IsReadAs : Answer → Answer → Type 0
IsReadAs c x = IsReadAlike (stand_of c) (stand_of x)

-- what a round holds its auction over is what the site says with these cells lost
pub record ReadsTheSite (site : Site) (lost : List (List ℕ)) (p : Places) : Type 0 where
  -- its rows ask for just the jobs that wait
  pub jobs : HaveTheSame (waits site lost) (jobs p.rows)
  -- the open cells, in the order in which the round has its own
  pub cells : List Answer
  pub open_are : HaveTheSame (open_cells site lost) cells
  -- the cells that it places on are just these, one by one, as far as an auction reads them
  pub alike : AllZip IsReadAs cells p.roomy

-- each round that reads so places the jobs just as the plan does, one after another
abbrev pub PlansAreRounds : Type 0
PlansAreRounds = (by : ℕ) (now : Moment) (line : ℕ) (s s' : Standing) (r : Report)
    (h : IsRound by now line s s' r) (site : Site) (lost : List (List ℕ)) →
    ReadsTheSite site lost h.opening_is.places → h.opening_is.places.placements ≡ plan site lost
