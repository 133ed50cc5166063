-- The members of a line: numbers, names and words.
use Rattle.std.specs.Prelude.{ℕ, List, Option, option_and_then, Result}
use Rattle.serde_json.specs.Data.{Data}
use Rattle.serde_json.specs.Find.{as_str, get}
use Rattle.scenario_lines.specs.Flaws.{◌>>=◌, or_shape}
use Rattle.scenario_lines.specs.Kinds.{number_said, whole_number}
use Rattle.scenario_lines.specs.Names.{name_as}
use Rattle.scenario_lines.specs.declared.flaw.Flaw.{Flaw}

-- what a value says for a member; one that is no object says nothing
unfoldable pub said : List ℕ → Data → Option Data
said m d = get m d

-- the number of a member, which 32 bits hold
unfoldable pub number_in : List ℕ → Data → Result ℕ Flaw
number_in m d = or_shape (option_and_then number_said (said m d))

-- the number of a member, which 64 bits hold
unfoldable pub long_number_in : List ℕ → Data → Result ℕ Flaw
long_number_in m d = or_shape (option_and_then whole_number (said m d))

-- the name of a member
unfoldable pub name_in : List ℕ → Data → Result (List ℕ) Flaw
name_in m d = or_shape (said m d) >>= name_as

-- the text of a member
unfoldable pub text_in : List ℕ → Data → Option (List ℕ)
text_in m d = option_and_then as_str (said m d)
