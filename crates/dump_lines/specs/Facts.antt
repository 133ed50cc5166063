-- What every line that is read keeps.
use Rattle.std.specs.Prelude.{◌≡◌, ℕ, ◌+◌, ◌<◌, List, length, true, Option, IfSome}
use Rattle.dump_lines.specs.Cells.{has_sound_amounts}
use Rattle.dump_lines.specs.declared.dump_line.DumpLine.{DumpLine}
use Rattle.dump_lines.specs.declared.dump_line.DumpLine.TheVariants as line
use Rattle.dump_lines.specs.declared.question.Question.{Question}
use Rattle.dump_lines.specs.declared.question.Question.TheVariants.{Show, Lose, LoseEach, LoseInTurn, Drain, Fit}
use Rattle.dump_lines.specs.declared.question.TurnOrder.{TurnOrder}
use Rattle.dump_lines.specs.declared.question.TurnOrder.TheVariants.{Fullest, ByName, Given}

-- an order that is given names one cell at least
abbrev pub IsTurnOrder : TurnOrder → Type 0
IsTurnOrder Fullest = Unit {0}
IsTurnOrder ByName = Unit {0}
IsTurnOrder (Given cells) = 0 < length cells

-- a batch has one cell at least, and so has a list of cells
abbrev pub IsDrain : ℕ → Option (List (List ℕ)) → Type 0
IsDrain at_a_time cells = (0 < at_a_time) × IfSome cells (λ listed. 0 < length listed)

-- a question is about something
abbrev pub IsQuestion : Question → Type 0
IsQuestion Show = Unit {0}
IsQuestion (Lose cells zones) = 0 < length cells + length zones
IsQuestion (LoseEach of) = Unit {0}
IsQuestion (LoseInTurn order at_least) = IsTurnOrder order
IsQuestion (Drain at_a_time cells) = IsDrain at_a_time cells
IsQuestion (Fit process instances demand) = Unit {0}

-- what every line that is read keeps
abbrev pub IsLine : DumpLine → Type 0
IsLine (line.Asks question) = IsQuestion question
IsLine (line.State state) = has_sound_amounts state ≡ true
IsLine (line.Listed place) = Unit {0}
IsLine (line.Task task) = Unit {0}
IsLine (line.Desired desired) = Unit {0}
IsLine (line.Actual row) = Unit {0}
IsLine line.Domain = Unit {0}
