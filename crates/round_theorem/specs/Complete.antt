-- What a complete round has done of what convergence asked.
use Rattle.std.specs.Prelude.{◌≡◌, ℕ, []}
use Rattle.bbs_model.specs.PortView.{IsQuiet, rows_seen}
use Rattle.bbs_model.specs.Work.{work}
use Rattle.convergence.specs.Plans.{plan_of_answers}
use Rattle.convergence.specs.declared.report.Report.{Report}
use Rattle.converge_laws.specs.Accepted.{AreAccepted}
use Rattle.converge_laws.specs.Converged.{IsConverged}
use Rattle.converge_laws.specs.Laws.{after_work, after_plan}
use Rattle.converge_round.specs.Askings.{StandApart}
use Rattle.converge_round.specs.Reps.{names_of}
use Rattle.converge_round.specs.Rounds.{Standing, IsRound}
use Rattle.crash_backoff.specs.declared.moment.Moment.{Moment}

-- nothing was lost, refused or left without a place, and nobody else moved the board
pub record IsComplete (r : Report) : Type 0 where
  pub lost : r.lost ≡ 0
  pub refused : r.refused ≡ []
  pub placed : r.unplaced ≡ []
  pub alone : r.foreign ≡ 0

-- nobody else moved the board while the round went on; what its first rows asked for was accepted, and so was
-- what the answers asked for then; the auction was held at the rows after both
pub record HasTakenAll (by : ℕ) (now : Moment) (line : ℕ) (s s' : Standing) (r : Report) (h : IsRound by now line s s' r) : Type 0 where
  pub quiet : IsQuiet h.first s'.view
  pub worked : AreAccepted (rows_seen h.first) (work (rows_seen h.first) now)
  pub planned : AreAccepted (after_work (rows_seen h.first) now)
      (plan_of_answers (after_work (rows_seen h.first) now) h.opens.hearing.got now)
  pub auctioned : h.opening_is.places.rows ≡ after_plan (rows_seen h.first) h.opens.hearing.got now

-- each complete round did so
abbrev pub CompleteRoundsTakeAll : Type 0
CompleteRoundsTakeAll = (by : ℕ) (now : Moment) (line : ℕ) (s s' : Standing) (r : Report) (h : IsRound by now line s s' r) →
    IsComplete r → HasTakenAll by now line s s' r h

-- where the names of the reps differ, a complete round leaves all as it should be, by the rows that it has seen
-- and what the reps answer then
abbrev pub CompleteRoundsConverge : Type 0
CompleteRoundsConverge = (by : ℕ) (now : Moment) (line : ℕ) (s s' : Standing) (r : Report) →
    IsRound by now line s s' r → StandApart (names_of s.reps) → IsComplete r →
    IsConverged (rows_seen s'.view) r.stores.value now
