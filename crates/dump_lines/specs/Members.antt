-- The members of an object that are numbers, names and words.
use Rattle.std.specs.Prelude.{ℕ, List, Bool, false, Option, Some, None, is_some, option_and_then, Result, Ok, Err, if◌then◌else◌}
use Rattle.std.specs.Str.{str_eq_ignore_ascii_case}
use Rattle.serde_json.specs.Data.{Data}
use Rattle.serde_json.specs.Find.{as_str, get}
use Rattle.dump_lines.specs.Faults.{◌>>=◌, or_shape}
use Rattle.dump_lines.specs.Values.{is_filled, name_as, number_as, truth_as}
use Rattle.dump_lines.specs.declared.fault.LineFault.{LineFault}
use Rattle.dump_lines.specs.declared.fault.LineFault.TheVariants.{BadShape}

-- what is read of a member that has to be there
abbrev pub needed : {X : Type 0} → (Data → Result X LineFault) → Option Data → Result X LineFault
needed read None = Err BadShape
needed read (Some d) = read d

-- what is read of a member that may lack
abbrev pub optional : {X : Type 0} → X → (Data → Result X LineFault) → Option Data → Result X LineFault
optional other read None = Ok other
optional other read (Some d) = read d

-- what a value says for a member; one that is no object says nothing
unfoldable pub said : List ℕ → Data → Option Data
said m d = get m d

-- a value has the member
abbrev pub has : List ℕ → Data → Bool
has m d = is_some (said m d)

-- the number of a member
unfoldable pub number_in : List ℕ → Data → Result ℕ LineFault
number_in m d = needed number_as (said m d)

-- the number of a member, or another one where it isn't there
unfoldable pub number_or : ℕ → List ℕ → Data → Result ℕ LineFault
number_or other m d = optional other number_as (said m d)

-- whether a member is true; where it isn't there it is false
unfoldable pub truth_in : List ℕ → Data → Result Bool LineFault
truth_in m d = optional false truth_as (said m d)

-- the name of a member
unfoldable pub name_in : List ℕ → Data → Result (List ℕ) LineFault
name_in m d = needed name_as (said m d)

-- whether the list of a member has items; it has none where it isn't there
unfoldable pub is_filled_in : List ℕ → Data → Result Bool LineFault
is_filled_in m d = optional false is_filled (said m d)

-- the text of a member
unfoldable pub text_in : List ℕ → Data → Option (List ℕ)
text_in m d = option_and_then as_str (said m d)

-- whether the text of a member is a word, in whatever letter case
unfoldable pub is_word_in : List ℕ → List ℕ → Data → Result Bool LineFault
is_word_in word m d = or_shape (text_in m d) >>= λ text. Ok (str_eq_ignore_ascii_case text word)

-- likewise, with what holds where the member isn't there
unfoldable pub is_word_or : Bool → List ℕ → List ℕ → Data → Result Bool LineFault
is_word_or other word m d = if has m d then is_word_in word m d else Ok other
