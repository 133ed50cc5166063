-- Whose lines they are.
use Rattle.std.specs.Prelude.{Bool, not, List}
use Rattle.std.specs.List.{list_all}
use Rattle.scenario_lines.specs.Acts.{is_of_cell}
use Rattle.scenario_lines.specs.declared.script.Line.{Line}

-- no line is a cell's
abbrev pub are_of_clients : List Line → Bool
are_of_clients lines = list_all (λ l. not (is_of_cell l.act)) lines
