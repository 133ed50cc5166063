-- Names in a line.
use Rattle.std.specs.Prelude.{ℕ, List, [], ◌∷◌, Option, Some, None, Result, Ok, Err, if◌then◌else◌}
use Rattle.serde_json.specs.Data.{Data}
use Rattle.serde_json.specs.Find.{as_array, as_str}
use Rattle.diego_names.specs.Reading.{name_reading}
use Rattle.diego_names.specs.declared.name.NameFault.{NameFault}
use Rattle.scenario_lines.specs.Flaws.{◌>>=◌, or_shape}
use Rattle.scenario_lines.specs.Kinds.{items_in}
use Rattle.scenario_lines.specs.Members.{has, said_for}
use Rattle.scenario_lines.specs.declared.flaw.Flaw.{Flaw}
use Rattle.scenario_lines.specs.declared.flaw.Flaw.TheVariants.{BadName}
use Rattle.scenario_lines.specs.declared.member.Member.{Member}

-- what is a name
abbrev pub or_name : Result (List ℕ) NameFault → Result (List ℕ) Flaw
or_name (Ok name) = Ok name
or_name (Err fault) = Err BadName

-- the name that a text is
abbrev pub name_said : List ℕ → Result (List ℕ) Flaw
name_said text = or_name (name_reading text)

-- the name that a value is
unfoldable pub name_as : Data → Result (List ℕ) Flaw
name_as d = or_shape (as_str d) >>= name_said

-- the name of a member
unfoldable pub name_given : Member → Data → Result (List ℕ) Flaw
name_given m d = or_shape (said_for m d) >>= name_as

-- the name of a member, or none where it isn't there
unfoldable pub optional_name_in : Member → Data → Result (Option (List ℕ)) Flaw
optional_name_in m d = if has m d then (name_given m d >>= λ name. Ok (Some name)) else Ok None

-- the names that values are
abbrev pub names_said : List Data → Result (List (List ℕ)) Flaw
names_said [] = Ok []
names_said (d ∷ ds) = name_as d >>= λ name. names_said ds >>= λ names. Ok (name ∷ names)

-- the names that the items of an array are
unfoldable pub names_as : Data → Result (List (List ℕ)) Flaw
names_as d = or_shape (as_array d) >>= λ ds. names_said (items_in ds)

-- the names in the list of a member, or none where it isn't there
unfoldable pub names_in : Member → Data → Result (List (List ℕ)) Flaw
names_in m d = if has m d then (or_shape (said_for m d) >>= names_as) else Ok []
