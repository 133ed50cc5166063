-- When the records of a board and the answers of its cells are as the site says with cells lost.
use Rattle.std.specs.Prelude.{◌≡◌, ℕ, ◌<◌, Bool, true, false, not, List, Some, filter, filter_map}
use Rattle.std.specs.List.{AllZip, Contains}
use Rattle.bbs_model.specs.Tables.{find_actual, find_desired}
use Rattle.bbs_model.specs.Work.{wants}
use Rattle.bbs_model.specs.declared.rows.Rows.{Rows}
use Rattle.cell_records.specs.declared.answer.Answer.{Answer}
use Rattle.convergence.specs.declared.report.Report.{Report}
use Rattle.converge_round.specs.Askings.{StandApart}
use Rattle.converge_round.specs.Jobs.{task_job}
use Rattle.converge_round.specs.Places.{is_being_emptied}
use Rattle.converge_round.specs.Reps.{names_of}
use Rattle.converge_round.specs.Rounds.{Standing, IsRound}
use Rattle.crash_backoff.specs.declared.moment.Moment.{Moment}
use Rattle.diego_names.specs.declared.instance.Instance.{Instance}
use Rattle.diego_names.specs.declared.key.Key.{Key}
use Rattle.lrp_records.specs.declared.actual.Actual.{Actual}
use Rattle.lrp_records.specs.declared.desired.Desired.{Desired}
use Rattle.lrp_records.specs.declared.presence.Presence.TheVariants.{Ordinary}
use Rattle.lrp_records.specs.declared.state.LrpState.{LrpState}
use Rattle.lrp_records.specs.declared.state.LrpState.TheVariants.{Unclaimed, Claimed, Running, Crashed}
use Rattle.round_completeness.specs.Left.{less_all}
use Rattle.what_if.specs.Stays.{is_held, is_lost}
use Rattle.what_if.specs.declared.site.Site.{Site}
use Rattle.what_if.specs.declared.site.Wanted.{Wanted}
use Rattle.forecast_laws.specs.Plans.{HaveTheSame, IsReadAs, ReadsTheSite}

-- the process of a wanted instance is desired with so many instances, and with the amounts that the site says
pub record IsDesired (rows : Rows) (w : Wanted) : Type 0 where
  pub desired : Desired
  pub there : find_desired rows w.key.process ≡ Some desired
  pub within : w.key.index < desired.instances
  pub memory : desired.memory ≡ w.memory
  pub disk : desired.disk ≡ w.disk
  pub tag : desired.tag ≡ w.tag

-- a row is in this state: CLAIMED or RUNNING only if a cell holds its instance, CRASHED only if the site says so, and
-- UNCLAIMED only if neither is so
abbrev pub SuitsState : (held crashed : Bool) → LrpState → Type 0
SuitsState held crashed Unclaimed = (held ≡ false) × (crashed ≡ false)
SuitsState held crashed (Claimed instance cell) = held ≡ true
SuitsState held crashed (Running instance cell) = held ≡ true
SuitsState held crashed Crashed = crashed ≡ true

-- a wanted instance has its ORDINARY row, in the state that the site leads to with these cells lost
pub record HasItsRow (site : Site) (lost : List (List ℕ)) (rows : Rows) (w : Wanted) : Type 0 where
  pub row : Actual
  pub there : find_actual rows w.key Ordinary ≡ Some row
  pub state : SuitsState (is_held site lost w.key) w.crashed row.state

-- the rows of a board are those of the site with these cells lost
pub record AreRowsOf (site : Site) (lost : List (List ℕ)) (rows : Rows) : Type 0 where
  -- what the site wants is desired, with its amounts
  pub desired : (w : Wanted) → Contains site.wanted w → IsDesired rows w
  -- and it wants all that is desired
  pub wanted : (key : Key) → wants rows key ≡ true → (w : Wanted) × Contains site.wanted w × (w.key ≡ key)
  -- each wanted instance has its row
  pub actual : (w : Wanted) → Contains site.wanted w → HasItsRow site lost rows w
  -- the PENDING tasks are those that wait in the site, with their amounts
  pub pending : HaveTheSame site.pending (filter_map task_job rows.tasks)

-- a cell of the site, and what it answered less what was stopped on it; the board knows that the cell is being emptied
-- just where the site does
pub record IsAnswered (rows : Rows) (gone : List (List ℕ × Instance)) (c x : Answer) : Type 0 where
  pub alike : IsReadAs c (less_all gone x)
  pub emptied : is_being_emptied rows x.cell ≡ c.evacuating

-- the cells that answered are just those of the site that aren't lost
pub record AreAnswersOf (site : Site) (lost : List (List ℕ)) (rows : Rows) (gone : List (List ℕ × Instance))
    (got : List Answer) : Type 0 where
  -- those of the site, in the order in which they answered
  pub cells : List Answer
  pub kept_are : HaveTheSame (filter (λ c. not (is_lost lost c.cell)) site.cells) cells
  -- each with its answer
  pub answered : AllZip (IsAnswered rows gone) cells got

-- the records of a board, as a round reads them for its auction, and what cells answered, less what was stopped, are
-- those of the site with these cells lost
pub record AreAsTheSite (site : Site) (lost : List (List ℕ)) (rows : Rows) (gone : List (List ℕ × Instance))
    (got : List Answer) : Type 0 where
  pub rows_are : AreRowsOf site lost rows
  pub answers_are : AreAnswersOf site lost rows gone got

-- where the names of the reps differ and the records are as the site says, a round reads the site
abbrev pub RecordsReadTheSite : Type 0
RecordsReadTheSite = (by : ℕ) (now : Moment) (line : ℕ) (s s' : Standing) (r : Report)
    (h : IsRound by now line s s' r) (site : Site) (lost : List (List ℕ)) → StandApart (names_of s.reps) →
    AreAsTheSite site lost h.opening_is.places.rows r.stopped h.opens.hearing.got →
    ReadsTheSite site lost h.opening_is.places
