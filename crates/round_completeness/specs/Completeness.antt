-- Which rounds are complete.
use Rattle.std.specs.Prelude.{◌≡◌, ◌⊎◌, ℕ, ◌-◌, ◌^◌, ◌<◌, ◌≤◌, List, [], Some}
use Rattle.std.specs.List.{Contains}
use Rattle.bbs_model.specs.PortView.{rows_seen}
use Rattle.bbs_model.specs.declared.command.Command.{Command}
use Rattle.bbs_model.specs.declared.rows.Rows.{Rows}
use Rattle.bbs_model.specs.declared.verdict.BoardRefusal.{BoardRefusal}
use Rattle.cell_records.specs.declared.answer.Answer.{Answer}
use Rattle.cell_records.specs.declared.cell_row.CellRow.{CellRow}
use Rattle.cell_rep.specs.Wires.{WireEnds}
use Rattle.cell_rep.specs.declared.rep.CellRep.{CellRep}
use Rattle.cell_rep.specs.declared.wire.Delivery.TheVariants.{Through}
use Rattle.cell_rep.specs.declared.wire.WireCall.{WireCall}
use Rattle.convergence.specs.declared.report.Report.{Report}
use Rattle.converge_round.specs.Askings.{present, StandApart, IsHeardFrom}
use Rattle.converge_round.specs.Reps.{names_of}
use Rattle.converge_round.specs.Rounds.{Standing, IsRound}
use Rattle.converge_round.specs.Sendings.{WireAt}
use Rattle.crash_backoff.specs.declared.moment.Moment.{Moment}
use Rattle.round_theorem.specs.Complete.{IsComplete}
use Rattle.round_theorem.specs.Lacks.{IsLack}

-- the wire's count of losses hasn't risen, and can still rise
pub record IsCountSame (before after : WireAt) : Type 0 where
  pub stands : after.losses ≤ before.losses
  pub rises : before.losses < 2 ^ 64 - 1

-- the wire tells that all gets through
pub record TellsThrough (w : WireAt) : Type 0 where
  pub ends : WireEnds
  pub told : w.ends ≡ Some ends
  pub through : (call : WireCall) (n : ℕ) → ends call n ≡ Through

-- nothing is lost on the wire
abbrev pub LosesNothing : WireAt → WireAt → Type 0
LosesNothing before after = IsCountSame before after ⊎ TellsThrough before

-- of each cell that is present there is a rep that has joined under the epoch of its row, and has an answer
abbrev pub EachAnswers : List CellRep → Rows → Moment → Type 0
EachAnswers reps rows now = (c : CellRow) → Contains (present rows now) c →
    (a : Answer) × IsHeardFrom reps c.cell c.epoch a

-- the names of the reps differ and each cell that is present has an answer, the wire loses nothing, nobody else moves
-- the board, each job finds a cell, and no refusal says that the board has no room left
pub record IsUndisturbed (by : ℕ) (now : Moment) (line : ℕ) (s s' : Standing) (r : Report)
    (h : IsRound by now line s s' r) : Type 0 where
  pub names : StandApart (names_of s.reps)
  pub answer : EachAnswers s.reps (rows_seen h.opens.first) now
  pub wire : LosesNothing s.wire s'.wire
  pub alone : r.foreign ≡ 0
  pub placed : r.unplaced ≡ []
  pub room : (x : Command × BoardRefusal) → Contains r.refused x → IsLack x.1 → ⊥

-- each such round is complete
abbrev pub RoundsThatNothingDisturbsAreComplete : Type 0
RoundsThatNothingDisturbsAreComplete = (by : ℕ) (now : Moment) (line : ℕ) (s s' : Standing) (r : Report)
    (h : IsRound by now line s s' r) → IsUndisturbed by now line s s' r h → IsComplete r
