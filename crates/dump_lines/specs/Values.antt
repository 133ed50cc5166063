-- What single values are.
use Rattle.std.specs.Prelude.{ℕ, ◌^◌, List, [], ◌∷◌, Bool, true, false, nat_lt, Option, Some, None, is_some, option_map, option_and_then, Result, Ok, Err, if◌then◌else◌}
use Rattle.serde_json.specs.Data.{Data, Items, no_items, item}
use Rattle.serde_json.specs.Find.{as_array, as_bool, as_null, as_number, as_str, as_u64}
use Rattle.diego_names.specs.Reading.{name_reading}
use Rattle.diego_names.specs.declared.name.NameFault.{NameFault}
use Rattle.dump_lines.specs.Faults.{◌>>=◌, or_shape}
use Rattle.dump_lines.specs.declared.fault.LineFault.{LineFault}
use Rattle.dump_lines.specs.declared.fault.LineFault.TheVariants.{BadName}

-- a number below a limit
abbrev pub below : ℕ → ℕ → Option ℕ
below limit n = if nat_lt n limit then Some n else None

-- a whole number from 0 to 4294967295, which JSON writes without point and exponent
abbrev pub number_said : Data → Option ℕ
number_said d = option_and_then (below (2 ^ 32)) (option_and_then as_u64 (as_number d))

-- the number that a value is
abbrev pub number_as : Data → Result ℕ LineFault
number_as d = or_shape (number_said d)

-- the truth that a value is
abbrev pub truth_as : Data → Result Bool LineFault
truth_as d = or_shape (as_bool d)

-- what is a name
abbrev pub or_name : Result (List ℕ) NameFault → Result (List ℕ) LineFault
or_name (Ok name) = Ok name
or_name (Err fault) = Err BadName

-- the name that a text is
abbrev pub name_said : List ℕ → Result (List ℕ) LineFault
name_said text = or_name (name_reading text)

-- the name that a value is
unfoldable pub name_as : Data → Result (List ℕ) LineFault
name_as d = or_shape (as_str d) >>= name_said

-- the items of an array
abbrev pub items_in : Items → List Data
items_in no_items = []
items_in (item d ds) = d ∷ items_in ds

-- the items of a list, where null is a list of nothing
abbrev pub list_said : Data → Option (List Data)
list_said d = if is_some (as_null d) then Some [] else option_map items_in (as_array d)

-- there is something in a list
abbrev pub has_items : List Data → Bool
has_items [] = false
has_items (d ∷ ds) = true

-- whether a list has items
unfoldable pub is_filled : Data → Result Bool LineFault
is_filled d = or_shape (list_said d) >>= λ ds. Ok (has_items ds)
