-- Reading a field at a place, with the first fault.
use Rattle.std.specs.Prelude.{ℕ, ◌+◌, Bool, List, length, drop, Option, Some, None, Result, Ok, Err, if◌then◌else◌}
use Rattle.std.specs.Int.{Width, w32, w64}
use Rattle.diego_names.specs.declared.instance.Instance.{Instance}
use Rattle.wire_fields.specs.declared.fault.FieldFault.{FieldFault}
use Rattle.wire_fields.specs.declared.fault.FieldFault.TheVariants.{Short, BadField}
use Rattle.wire_fields.specs.Front.{Front, Holds, Ends, Bad, number_front, name_front, optional_name_front, truth_front}

infixl 10 ◌>>=◌
-- one reading after another, up to the first fault
abbrev pub ◌>>=◌ : {A B E : Type 0} → Result A E → (A → Result B E) → Result B E
(Ok x) >>= f = f x
(Err e) >>= f = Err e

-- a field's value and the place after it, or its fault
abbrev pub field_placed : {X : Type 0} → List ℕ → ℕ → Front X → Result (X × ℕ) FieldFault
field_placed bytes at (Holds x n) = Ok (x, at + n)
field_placed bytes at Ends = Err (Short (length bytes))
field_placed bytes at Bad = Err (BadField at)

-- the number at a place
unfoldable pub number_at : Width → List ℕ → ℕ → Result (ℕ × ℕ) FieldFault
number_at w bytes at = field_placed bytes at (number_front w (drop at bytes))

-- the name at a place
unfoldable pub name_at : List ℕ → ℕ → Result (List ℕ × ℕ) FieldFault
name_at bytes at = field_placed bytes at (name_front (drop at bytes))

-- the name at a place, or none
unfoldable pub optional_name_at : List ℕ → ℕ → Result (Option (List ℕ) × ℕ) FieldFault
optional_name_at bytes at = field_placed bytes at (optional_name_front (drop at bytes))

-- the truth value at a place
unfoldable pub truth_at : List ℕ → ℕ → Result (Bool × ℕ) FieldFault
truth_at bytes at = field_placed bytes at (truth_front (drop at bytes))

-- the instance at a place: its epoch, and then its number
unfoldable pub instance_at : List ℕ → ℕ → Result (Instance × ℕ) FieldFault
instance_at bytes at = do
  epoch ← number_at w64 bytes at
  number ← number_at w32 bytes epoch.1
  Ok (record { epoch = epoch.0; number = number.0 }, number.1)

-- the instance at a place, or none: a truth value and, after yes, the instance
unfoldable pub optional_instance_at : List ℕ → ℕ → Result (Option Instance × ℕ) FieldFault
optional_instance_at bytes at = do
  is_there ← truth_at bytes at
  if is_there.0 then (instance_at bytes is_there.1 >>= λ i. Ok (Some i.0, i.1)) else Ok (None, is_there.1)
