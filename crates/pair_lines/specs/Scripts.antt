-- Which scripts are one for a pair: those whose lines begin phases or are a client's.
use Rattle.std.specs.Prelude.{◌≡◌, ℕ, List, [], ◌∷◌, Option, Some, None, find}
use Rattle.std.specs.Option.{option_map, option_or}
use Rattle.scenario_reader.specs.Order.{is_cells_line}
use Rattle.scenario_lines.specs.declared.script.Line.{Line}
use Rattle.scenario_lines.specs.declared.script.Phase.{Phase}
use Rattle.scenario_lines.specs.declared.script.RoundLine.{RoundLine}
use Rattle.scenario_lines.specs.declared.script.Script.{Script}

-- the number of the first of these lines that a cell acts on
abbrev pub first_cells_line : List Line → Option ℕ
first_cells_line lines = option_map (λ l. l.line) (find is_cells_line lines)

-- the number of the line of a round
abbrev pub round_number : Option RoundLine → Option ℕ
round_number None = None
round_number (Some round) = Some round.line

-- the number of the first line of a phase that is no client's; no phase has a cell's line beside a round
abbrev pub other_in : Phase → Option ℕ
other_in phase = option_or (first_cells_line phase.lines) (round_number phase.round)

-- the same of phases
abbrev pub first_other_in : List Phase → Option ℕ
first_other_in [] = None
first_other_in (phase ∷ phases) = option_or (other_in phase) (first_other_in phases)

-- the number of the first line of a script that neither begins a phase nor is a client's
abbrev pub first_other : Script → Option ℕ
first_other script = first_other_in script.phases

-- a script for a pair
abbrev pub IsPairScript : Script → Type 0
IsPairScript script = first_other script ≡ None
