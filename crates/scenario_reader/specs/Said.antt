-- A line that says something.
use Rattle.std.specs.Prelude.{ℕ, Bool, true, false}
use Rattle.scenario_lines.specs.declared.content.Content.{Content}
use Rattle.scenario_lines.specs.declared.content.Content.TheVariants.{Phase, Acts, Round}

-- what a line says, and its number
pub record SaidLine : Type 0 where
  pub line : ℕ
  pub content : Content

-- it begins a phase
abbrev pub is_at : Content → Bool
is_at (Phase at) = true
is_at (Acts act) = false
is_at (Round losses) = false

-- how many runs a line has: none where it begins a phase
abbrev pub runs_on : Content → ℕ
runs_on (Phase at) = 0
runs_on (Acts act) = act.times
runs_on (Round losses) = 1
