-- Lists of what is read, one item after another.
use Rattle.std.specs.Prelude.{ℕ, List, [], ◌∷◌, ◌++◌, Option, Some, None, Result, Ok, Err}
use Rattle.serde_json.specs.Data.{Data}
use Rattle.dump_lines.specs.Faults.{◌>>=◌, first_of, or_shape}
use Rattle.dump_lines.specs.Members.{said}
use Rattle.dump_lines.specs.Values.{list_said}
use Rattle.dump_lines.specs.declared.fault.LineFault.{LineFault}

-- what was read so far, and one thing more
abbrev pub with_next : {X : Type 0} → Result (List X) LineFault → Result X LineFault → Result (List X) LineFault
with_next (Ok xs) (Ok x) = Ok (xs ++ x ∷ [])
with_next (Ok xs) (Err fault) = Err fault
with_next (Err fault) (Ok x) = Err fault
with_next (Err fault) (Err second) = Err (first_of fault second)

-- what was read so far, and what each of these values is
abbrev pub all_from : {X : Type 0} → (Data → Result X LineFault) → Result (List X) LineFault → List Data → Result (List X) LineFault
all_from read so_far [] = so_far
all_from read so_far (d ∷ ds) = all_from read (with_next so_far (read d)) ds

-- the list of a member, which is empty where the member isn't there
abbrev pub list_given : Option Data → Option (List Data)
list_given None = Some []
list_given (Some d) = list_said d

-- the items in the list of a member
unfoldable pub list_in : List ℕ → Data → Option (List Data)
list_in m d = list_given (said m d)

-- what each item in the list of a member is
unfoldable pub all_in : {X : Type 0} → (Data → Result X LineFault) → List ℕ → Data → Result (List X) LineFault
all_in read m d = or_shape (list_in m d) >>= all_from read (Ok [])
