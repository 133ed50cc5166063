-- A line of output.
use Rattle.std.specs.Prelude.{ℕ, List, [], ◌∷◌, ◌++◌}
use Rattle.serde_json.specs.Data.{Data}
use Rattle.serde_json.specs.Written.{compact_text}

-- the compact text of an object, and a newline
abbrev pub line_text : Data → List ℕ
line_text d = compact_text d ++ 10 ∷ []
