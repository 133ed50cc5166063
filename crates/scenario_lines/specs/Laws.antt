-- What the lines of actors keep.
use Rattle.std.specs.Prelude.{◌≡◌, ◌≤◌}
use Rattle.scenario_lines.specs.Acts.{is_of_cell}
use Rattle.scenario_lines.specs.declared.content.ActLine.{ActLine}
use Rattle.scenario_lines.specs.declared.content.Content.{Content}
use Rattle.scenario_lines.specs.declared.content.Content.TheVariants.{Phase, Acts, Round}

-- a cell does what cells do, and a client what clients do; and it is done once to 1,000 times
pub record IsActLine (line : ActLine) : Type 0 where
  pub whose : line.actor.cell ≡ is_of_cell line.act
  pub times : (1 ≤ line.times) × (line.times ≤ 1000)

-- where a line is an actor's, it is as it has to be
abbrev pub FitsItsActor : Content → Type 0
FitsItsActor (Phase at) = Unit {0}
FitsItsActor (Acts line) = IsActLine line
FitsItsActor (Round losses) = Unit {0}
