-- What a line says, where what its actor does is kept beside it.
use Rattle.scenario_lines.specs.declared.act.Act.{Act}
use Rattle.scenario_lines.specs.declared.content.ActHead.{ActHead}
use Rattle.scenario_lines.specs.declared.content.ActLine.{ActLine}
use Rattle.scenario_lines.specs.declared.content.Content.{Content}
use Rattle.scenario_lines.specs.declared.content.Content.TheVariants as content
use Rattle.scenario_lines.specs.declared.content.Outline.{Outline}
use Rattle.scenario_lines.specs.declared.content.Outline.TheVariants.{Phase, Acts, Round}

-- the line of an actor who does this
abbrev pub line_with : Act → ActHead → ActLine
line_with act head = record { actor = head.actor; act = act; lost = head.lost; times = head.times }

-- what a line says where its actor, if it has one, does this
abbrev pub content_with : Act → Outline → Content
content_with act (Phase at) = content.Phase at
content_with act (Acts head) = content.Acts (line_with act head)
content_with act (Round losses) = content.Round losses
