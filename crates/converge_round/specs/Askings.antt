-- What the cells that are present are asked, and what they answer.
use Rattle.std.specs.Prelude.{◌≡◌, ℕ, ◌==◌, Bool, true, false, List, ◌++◌, Option, Some, None, slice_get, if◌then◌else◌}
use Rattle.std.specs.List.{filter_map}
use Rattle.std.specs.Option.{option_to_list}
use Rattle.cell_records.specs.Presence.{is_present}
use Rattle.cell_records.specs.declared.answer.Answer.{Answer}
use Rattle.cell_records.specs.declared.cell_row.CellRow.{CellRow}
use Rattle.crash_backoff.specs.declared.moment.Moment.{Moment}
use Rattle.bbs_model.specs.declared.rows.Rows.{Rows}
use Rattle.cell_rep.specs.Laws.{IsAnswerOf}
use Rattle.cell_rep.specs.Reps.{answer_of}
use Rattle.cell_rep.specs.declared.rep.CellRep.{CellRep}
use Rattle.cell_rep.specs.declared.wire.CallKind.TheVariants.{Ask}
use Rattle.converge_round.specs.Reps.{names_of, StandsFor}
use Rattle.converge_round.specs.Sendings.{WireAt, IsSent}

-- a cell, if its lease holds
abbrev pub present_at : Moment → CellRow → Option CellRow
present_at now c = if is_present c now then Some c else None

-- the cells whose lease holds
abbrev pub present : Rows → Moment → List CellRow
present rows now = filter_map (present_at now) rows.cells

-- an answer counts only under that epoch
abbrev pub answer_under : ℕ → Option Answer → Option Answer
answer_under epoch None = None
answer_under epoch (Some a) = if a.epoch == epoch then Some a else None

-- each name stands at one place
abbrev pub StandApart : List (List ℕ) → Type 0
StandApart names = (i j : ℕ) (name : List ℕ) → slice_get names i ≡ Some name → slice_get names j ≡ Some name → i ≡ j

-- the rep of that cell has joined under that epoch, and answers so
pub record IsHeardFrom (cells : List CellRep) (cell : List ℕ) (epoch : ℕ) (a : Answer) : Type 0 where
  pub place : ℕ
  pub rep : CellRep
  pub stands : StandsFor cells cell place rep
  pub answers : answer_of rep ≡ Some a
  pub epoch_is : a.epoch ≡ epoch
  pub sound : IsAnswerOf rep a

-- an answer is that of the cell's rep; where there is none, no rep of it answers under that epoch
abbrev pub Hears : List CellRep → List ℕ → ℕ → Option Answer → Type 0
Hears cells cell epoch None = StandApart (names_of cells) → (a : Answer) → IsHeardFrom cells cell epoch a → ⊥
Hears cells cell epoch (Some a) = IsHeardFrom cells cell epoch a

-- nothing is heard of a question that was lost
abbrev pub HearsIf : Bool → List CellRep → List ℕ → ℕ → Option Answer → Type 0
HearsIf true cells cell epoch answer = Hears cells cell epoch answer
HearsIf false cells cell epoch answer = answer ≡ None

-- a cell is asked
pub record IsAsked (cells : List CellRep) (c : CellRow) (answer : Option Answer) (s s' : WireAt) : Type 0 where
  pub reached : Bool
  pub sent : IsSent c.cell Ask reached s s'
  pub heard : HearsIf reached cells c.cell c.epoch answer

-- the wire, and what was heard so far
pub record Asking : Type 0 where
  pub wire : WireAt
  pub got : List Answer

-- these two
abbrev pub questions : WireAt → List Answer → Asking
questions wire got = record { wire = wire; got = got }

-- one cell more is asked
pub record AsksOne (cells : List CellRep) (c : CellRow) (s s' : Asking) : Type 0 where
  pub answer : Option Answer
  pub asked : IsAsked cells c answer s.wire s'.wire
  pub got : s'.got ≡ s.got ++ option_to_list answer
