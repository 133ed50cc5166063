-- Whose act it is.
use Rattle.std.specs.Prelude.{Bool, true, false}
use Rattle.scenario_lines.specs.declared.act.Act.{Act}
use Rattle.scenario_lines.specs.declared.act.Act.TheVariants as act

-- a cell acts, and no client
abbrev pub is_of_cell : Act → Bool
is_of_cell (act.Client op) = false
is_of_cell (act.Cell a) = true
is_of_cell act.Evacuate = true
