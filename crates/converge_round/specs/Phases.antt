-- What the phases of a round do, one after another.
use Rattle.std.specs.Prelude.{◌≡◌, ◌≢◌, ◌⊎◌, ℕ, ◌+◌, ◌-◌, ◌^◌, ◌≤◌, min, List, [], length, map, set}
use Rattle.std.specs.List.{AllPairs, Contains}
use Rattle.cell_records.specs.declared.answer.Answer.{Answer}
use Rattle.cell_records.specs.declared.job.Job.{Job}
use Rattle.cell_rep.specs.declared.rep.CellRep.{CellRep}
use Rattle.convergence.specs.Plans.{plan_of_answers}
use Rattle.convergence.specs.Strays.{strays}
use Rattle.crash_backoff.specs.declared.moment.Moment.{Moment}
use Rattle.bbs_model.specs.PortView.{PortView, rows_seen, Looks}
use Rattle.bbs_model.specs.Valid.{IsValid}
use Rattle.bbs_model.specs.Work.{work}
use Rattle.bbs_model.specs.declared.command.Command.{Command}
use Rattle.bbs_model.specs.declared.rows.Rows.{Rows}
use Rattle.converge_round.specs.Askings.{present, AsksOne, questions}
use Rattle.converge_round.specs.Callings.{Calling, calling, IsNoted}
use Rattle.converge_round.specs.Each.{Each}
use Rattle.converge_round.specs.Places.{OpensOne, placements, jobs_on, unplaced, fails_of}
use Rattle.converge_round.specs.Reps.{StandsFor, HasNoRep}
use Rattle.converge_round.specs.Sendings.{WireAt}
use Rattle.converge_round.specs.Starts.{AreFine, Claims, IsClaimOfOne, claiming, counted_all}
use Rattle.converge_round.specs.Stops.{Stopping, stops_at, StopsOne, so_far}
use Rattle.converge_round.specs.declared.claims.Claimed.{Claimed}
use Rattle.converge_round.specs.declared.opening.Hearing.{Hearing}
use Rattle.converge_round.specs.declared.opening.Opening.{Opening}
use Rattle.converge_round.specs.declared.placing.Places.{Places}
use Rattle.converge_round.specs.declared.stopping.Stops.{Stops}
use Rattle.converge_round.specs.declared.tally.Tally.{Tally}

-- there are at most 1,000 answers, and no two of one name
pub record AreFewApart (answers : List Answer) : Type 0 where
  pub few : length answers ≤ 1000
  pub differ : AllPairs (λ a b. a ≢ b) (map (λ (a : Answer). a.cell) answers)

-- each cell that is present by these rows, which are valid, was asked
pub record IsHearing (cells : List CellRep) (rows : Rows) (now : Moment) (s s' : WireAt) (h : Hearing) : Type 0 where
  pub valid : IsValid rows
  pub asked : h.asked ≡ length (present rows now)
  pub got : Each (AsksOne cells) (present rows now) (questions s []) (questions s' h.got)
  pub apart : AreFewApart h.got

-- what a table asks for at rows that were read then is called, each with a reply
pub record AreCalledBy (by : ℕ) (table : Rows → List Command) (s s' : Calling) : Type 0 where
  pub read : PortView
  pub looks : Looks s.view read
  pub calls : Each (IsNoted by) (table (rows_seen read)) (calling read s.tally) s'

-- the strays that answers tell are stopped, but for stops that were lost
pub record AreStopped (rows : Rows) (got : List Answer) (s s' : Stopping) (stops : Stops) : Type 0 where
  pub each : Each StopsOne (strays rows got) (so_far s []) (so_far s' stops.stopped)
  pub lost : stops.lost ≡ length (strays rows got) - length stops.stopped

-- where the work that waits goes, on what the cells that answered have left
pub record ArePlaced (rows : Rows) (cells : List CellRep) (got : List Answer) (p : Places) : Type 0 where
  pub rows_are : p.rows ≡ rows
  pub valid : IsValid rows
  pub open_are : Each (OpensOne rows cells) got [] p.roomy
  pub placed : p.placements ≡ placements rows p.roomy

-- what a round has seen of the board, what it has counted, the reps and the wire
pub record Course : Type 0 where
  pub view : PortView
  pub tally : Tally
  pub reps : List CellRep
  pub wire : WireAt

-- these four
abbrev pub course : PortView → Tally → List CellRep → WireAt → Course
course view tally reps wire = record { view = view; tally = tally; reps = reps; wire = wire }

-- what was lost before the claims: cells without an answer, and stops
abbrev pub lost_before : Hearing → Stops → ℕ
lost_before h stops = min ((h.asked - length h.got) + stops.lost) (2 ^ 64 - 1)

-- the first five phases of a round: cells are asked, what rows and answers ask for is called, strays are
-- stopped, and the auction is held
pub record IsOpenedRound (by : ℕ) (now : Moment) (s s' : Course) (o : Opening) : Type 0 where
  pub first : PortView
  pub looks : Looks s.view first
  pub hearing : Hearing
  pub wire : WireAt
  pub heard : IsHearing s.reps (rows_seen first) now s.wire wire hearing
  pub worked : Calling
  pub work_called : AreCalledBy by (λ rows. work rows now) (calling first s.tally) worked
  pub planned : Calling
  pub plan_called : AreCalledBy by (λ rows. plan_of_answers rows hearing.got now) worked planned
  pub third : PortView
  pub looks_third : Looks planned.view third
  pub stops : Stops
  pub stopped : AreStopped (rows_seen third) hearing.got (stops_at wire s.reps) (stops_at s'.wire s'.reps) stops
  pub looks_last : Looks third s'.view
  pub placed : ArePlaced (rows_seen s'.view) s'.reps hearing.got o.places
  pub asked_is : o.asked ≡ hearing.asked
  pub lost_is : o.lost ≡ lost_before hearing stops
  pub stopped_is : o.stopped ≡ stops.stopped
  pub tally_is : s'.tally ≡ planned.tally

-- jobs are started on the rep of a cell, without a fault, and then what came of them counts
pub record ClaimsAt (by : ℕ) (now : Moment) (cell : List ℕ) (jobs : List Job) (s s' : Course) : Type 0 where
  pub place : ℕ
  pub rep : CellRep
  pub stands : StandsFor s.reps cell place rep
  pub after : CellRep
  pub ends : List Claimed
  pub claims : Claims by now jobs (claiming rep s.view s.wire) (claiming after s'.view s'.wire) ends
  pub fine : AreFine ends
  pub counts : s'.tally ≡ counted_all ends s.tally
  pub reps_are : s'.reps ≡ set s.reps place after

-- the jobs that go to a cell are started on its rep, if it has one
abbrev pub ServesOne : ℕ → Moment → Places → Answer → Course → Course → Type 0
ServesOne by now p x s s' =
    ClaimsAt by now x.cell (jobs_on p.rows p.placements x.cell) s s' ⊎ (HasNoRep s.reps x.cell × (s' ≡ s))

-- the command claims one of the jobs that go to one of these cells, on that cell
abbrev pub IsClaimFor : Moment → Places → List Answer → Command → Type 0
IsClaimFor now p roomy c =
    (x : Answer) × Contains roomy x × IsClaimOfOne now x.cell (jobs_on p.rows p.placements x.cell) c

-- the notes of the instances that no cell had room for
abbrev pub fails_in : Moment → Places → List Command
fails_in now p = fails_of p.rows now (unplaced p.placements)
