-- That the auction gives a cell no more than it has room for.
use Rattle.std.specs.Prelude.{◌≡◌, ℕ, ◌≤◌, List, [], ◌∷◌}
use Rattle.std.specs.List.{Contains}
use Rattle.auctioneer.specs.Asked.{AreAnswers}
use Rattle.auctioneer.specs.Stands.{less}
use Rattle.bbs_model.specs.Valid.{IsValid}
use Rattle.bbs_model.specs.declared.rows.Rows.{Rows}
use Rattle.cell_records.specs.declared.amounts.Amounts.{Amounts}
use Rattle.cell_records.specs.declared.answer.Answer.{Answer}
use Rattle.cell_records.specs.declared.job.Job.{Job}
use Rattle.convergence.specs.declared.report.Report.{Report}
use Rattle.converge_round.specs.Askings.{StandApart}
use Rattle.converge_round.specs.Places.{placements, jobs_on}
use Rattle.converge_round.specs.Reps.{names_of}
use Rattle.converge_round.specs.Rounds.{Standing, IsRound}
use Rattle.crash_backoff.specs.declared.moment.Moment.{Moment}
use Rattle.round_theorem.specs.Losses.{declined_of}

-- the job finds room in what is free
pub record FindsRoom (free : Amounts) (job : Job) : Type 0 where
  pub memory : job.memory ≤ free.memory
  pub disk : job.disk ≤ free.disk
  pub container : 1 ≤ free.containers

-- each of these jobs finds room in what the ones before it leave
abbrev pub AllFindRoom : Amounts → List Job → Type 0
AllFindRoom free [] = Unit {0}
AllFindRoom free (job ∷ jobs) = FindsRoom free job × AllFindRoom (less free job) jobs

-- the jobs that go to a cell find room in what it answered that is free
abbrev pub PlacementsHaveRoom : Type 0
PlacementsHaveRoom = (rows : Rows) (cells : List Answer) → IsValid rows → AreAnswers cells →
    (x : Answer) → Contains cells x → AllFindRoom x.free (jobs_on rows (placements rows cells) x.cell)

-- where the names of the reps differ, none declines a start of a round
abbrev pub RoundsDeclineNoStart : Type 0
RoundsDeclineNoStart = (by : ℕ) (now : Moment) (line : ℕ) (s s' : Standing) (r : Report)
    (h : IsRound by now line s s' r) → StandApart (names_of s.reps) → declined_of by now line s s' r h ≡ 0
