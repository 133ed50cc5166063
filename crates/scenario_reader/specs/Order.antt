-- Where a line may stand, and how much a scenario may say.
use Rattle.std.specs.Prelude.{ℕ, List, [], ◌∷◌, Bool, true, false, ◌&&◌, ◌||◌, nat_lt, length, Option, Some, None, is_some, sum_by}
use Rattle.std.specs.List.{list_any}
use Rattle.scenario_lines.specs.Acts.{is_of_cell}
use Rattle.scenario_lines.specs.declared.content.Content.{Content}
use Rattle.scenario_lines.specs.declared.content.Content.TheVariants.{Phase as At, Acts, Round}
use Rattle.scenario_reader.specs.Actors.{actors_of}
use Rattle.scenario_reader.specs.Phases.{phases_of}
use Rattle.scenario_reader.specs.Said.{SaidLine, runs_on}
use Rattle.scenario_lines.specs.declared.script.Line.{Line}
use Rattle.scenario_lines.specs.declared.script.Phase.{Phase}

-- a cell acts on the line
abbrev pub is_cells_line : Line → Bool
is_cells_line line = is_of_cell line.act

-- the last of these phases, where this one stands before them
abbrev pub last_from : Phase → List Phase → Phase
last_from phase [] = phase
last_from phase (next ∷ more) = last_from next more

-- the last phase, if there is one
abbrev pub last_phase : List Phase → Option Phase
last_phase [] = None
last_phase (phase ∷ more) = Some (last_from phase more)

-- a line may not stand here, by the last phase that has begun: it stands before the first at; is an at that is less
-- than the one before; is the second round of its phase; is a round behind a cell's line, or a cell's line behind a round
abbrev pub is_misplaced : Option Phase → Content → Bool
is_misplaced None (At at) = false
is_misplaced None (Acts act) = true
is_misplaced None (Round losses) = true
is_misplaced (Some phase) (At at) = nat_lt at.0 phase.at.0
is_misplaced (Some phase) (Acts act) = is_of_cell act.act && is_some phase.round
is_misplaced (Some phase) (Round losses) = is_some phase.round || list_any is_cells_line phase.lines

-- a line may not stand behind these
abbrev pub is_out_of_order : List SaidLine → SaidLine → Bool
is_out_of_order before said = is_misplaced (last_phase (phases_of (actors_of before) before)) said.content

-- how many runs the lines have
abbrev pub runs_of : List SaidLine → ℕ
runs_of lines = sum_by (λ said. runs_on said.content) lines

-- there are more than 256 actors, or more than 200,000 runs
abbrev pub is_too_much : List SaidLine → Bool
is_too_much lines = nat_lt 256 (length (actors_of lines)) || nat_lt 200000 (runs_of lines)
