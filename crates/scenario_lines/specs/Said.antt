-- What a value says as a line.
use Rattle.std.specs.Prelude.{Result}
use Rattle.serde_json.specs.Data.{Data}
use Rattle.scenario_lines.specs.Contents.{content_in}
use Rattle.scenario_lines.specs.Flaws.{◌>>=◌}
use Rattle.scenario_lines.specs.Shapes.{shaped}
use Rattle.scenario_lines.specs.declared.content.Content.{Content}
use Rattle.scenario_lines.specs.declared.flaw.Flaw.{Flaw}

-- what a value says as a line
abbrev pub content_as : Data → Result Content Flaw
content_as d = shaped d >>= λ f. content_in f d
