-- How an instance is spelled, and what may not be there.
use Rattle.std.specs.Prelude.{ℕ, Bool, List, ◌++◌, Option, Some, None, codes}
use Rattle.std.specs.Fmt.{decimal}
use Rattle.serde_json.specs.Data.{Data, null, boolean, number, unsigned, string}
use Rattle.diego_names.specs.declared.instance.Instance.{Instance}

-- an instance: the epoch of its cell, a point, and its number there
abbrev pub instance_text : Instance → List ℕ
instance_text instance = decimal instance.epoch ++ (codes "." ++ decimal instance.number)

-- a whole number
abbrev pub whole : ℕ → Data
whole n = number (unsigned n)

-- a whole number, or null
abbrev pub optional_number_data : Option ℕ → Data
optional_number_data None = null
optional_number_data (Some n) = whole n

-- a name, or null
abbrev pub optional_name_data : Option (List ℕ) → Data
optional_name_data None = null
optional_name_data (Some name) = string name

-- an instance as its text, or null
abbrev pub optional_instance_data : Option Instance → Data
optional_instance_data None = null
optional_instance_data (Some instance) = string (instance_text instance)

-- a truth value, or null
abbrev pub optional_truth_data : Option Bool → Data
optional_truth_data None = null
optional_truth_data (Some truth) = boolean truth
