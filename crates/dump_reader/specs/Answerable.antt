-- Questions beside the whole dump: whether each can be answered.
use Rattle.std.specs.Prelude.{ℕ, List, [], ◌∷◌, ◌++◌, Bool, true, false, ◌&&◌, ◌||◌, nat_lt, length, Option, Some, None, Result, if◌then◌else◌}
use Rattle.std.specs.List.{list_all, list_any}
use Rattle.dump_lines.specs.declared.question.Each.{Each}
use Rattle.dump_lines.specs.declared.question.Each.TheVariants.{Zone, Cell, Pair}
use Rattle.dump_lines.specs.declared.question.Question.{Question}
use Rattle.dump_lines.specs.declared.question.Question.TheVariants.{Show, Lose, LoseEach, LoseInTurn, Drain, Fit}
use Rattle.dump_reader.specs.Faults.{FaultAt, at, unless}
use Rattle.dump_reader.specs.Lines.{is_same_name, repeats}
use Rattle.dump_reader.specs.Names.{cells_asked, cells_listed, cells_of_states, zones_asked, zones_listed, zones_of_states}
use Rattle.dump_reader.specs.declared.dump.Asked.{Asked}
use Rattle.dump_reader.specs.declared.dump.Dump.{Dump}
use Rattle.dump_reader.specs.declared.fault.DumpFault.{DumpFault}
use Rattle.dump_reader.specs.declared.fault.DumpFault.TheVariants.{Twice, TooMuch, Unknown}

-- pairs are asked for
abbrev pub asks_pairs : Question → Bool
asks_pairs Show = false
asks_pairs (Lose cells zones) = false
asks_pairs (LoseEach Zone) = false
asks_pairs (LoseEach Cell) = false
asks_pairs (LoseEach Pair) = true
asks_pairs (LoseInTurn order at_least) = false
asks_pairs (Drain at_a_time cells) = false
asks_pairs (Fit process instances demand) = false

-- a line names the cell: it is one with its state, or lists it
abbrev pub is_known_cell : Dump → List ℕ → Bool
is_known_cell dump cell = list_any (is_same_name cell) (cells_of_states dump) || list_any (is_same_name cell) (cells_listed dump)

-- a line names the zone: it is that of a cell's state, or of a listed cell
abbrev pub is_known_zone : Dump → List ℕ → Bool
is_known_zone dump zone = list_any (is_same_name zone) (zones_of_states dump) || list_any (is_same_name zone) (zones_listed dump)

-- a line names each cell and each zone that is asked about
abbrev pub asks_of_known : Dump → Question → Bool
asks_of_known dump question =
    list_all (is_known_cell dump) (cells_asked question) && list_all (is_known_zone dump) (zones_asked question)

-- the first fault that a question has beside the whole dump: it names a cell twice, asks for pairs where there are more
-- than 200 states of cells, or is about a cell or a zone that no line names
abbrev pub question_fault : Dump → Question → Option DumpFault
question_fault dump question =
    if repeats is_same_name [] (cells_asked question) then Some Twice
    else (if asks_pairs question && nat_lt 200 (length dump.states) then Some TooMuch
    else (if asks_of_known dump question then None else Some Unknown))

-- the fault in its line, or else the other one
abbrev pub or_later : Option DumpFault → ℕ → Option FaultAt → Option FaultAt
or_later None line later = later
or_later (Some fault) line later = Some (at fault line)

-- the first question that can't be answered
abbrev pub first_fault : Dump → List Asked → Option FaultAt
first_fault dump [] = None
first_fault dump (asked ∷ more) = or_later (question_fault dump asked.question) asked.line (first_fault dump more)

-- the first fault of the questions from these on, if they have one
abbrev pub questions_verdict : Dump → List Asked → Result (Unit {0}) FaultAt
questions_verdict dump questions = unless (first_fault dump questions) tt
