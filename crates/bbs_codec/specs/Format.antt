-- Values that are spelled as fields, one behind the other.
use Rattle.std.specs.Prelude.{ℕ, ◌<◌, ◌^◌, Bool, true, false, List, [], ◌++◌, nat_eq, Option, Result, Ok, Err, IfSome}
use Rattle.std.specs.Int.{w16, w32, w64}
use Rattle.diego_names.specs.Name.{IsName}
use Rattle.diego_names.specs.declared.instance.Instance.{Instance}
use Rattle.wire_fields.specs.Field.{field_number, field_name, field_optional_name, field_truth, field_instance, field_optional_instance}
use Rattle.wire_fields.specs.Laws.{IsField, FitsInstance}
use Rattle.wire_fields.specs.Reading.{◌>>=◌, number_at, name_at, optional_name_at, truth_at, instance_at, optional_instance_at}
use Rattle.wire_fields.specs.declared.fault.FieldFault.{FieldFault}
use Rattle.wire_fields.specs.declared.fault.FieldFault.TheVariants.{BadField}

-- which values have a spelling, how each is spelled, and how the value at a place is read
pub record Format (X : Type 0) : Type 1 where
  pub Fits : X → Type 0
  pub spelling : X → List ℕ
  pub read : List ℕ → ℕ → Result (X × ℕ) FieldFault

-- the laws of a field hold of it
abbrev pub IsFormat : {X : Type 0} → Format X → Type 0
IsFormat f = IsField f.Fits f.spelling f.read

-- a value that was read, seen otherwise
unfoldable pub seen_at : {X Y : Type 0} → (X → Y) → (List ℕ → ℕ → Result (X × ℕ) FieldFault) → List ℕ → ℕ → Result (Y × ℕ) FieldFault
seen_at make read bytes at = read bytes at >>= λ x. Ok (make x.0, x.1)

-- two values, one behind the other
abbrev pub both_at : {X Y : Type 0} → (List ℕ → ℕ → Result (X × ℕ) FieldFault) → (List ℕ → ℕ → Result (Y × ℕ) FieldFault)
    → List ℕ → ℕ → Result ((X × Y) × ℕ) FieldFault
both_at first second bytes at = first bytes at >>= λ x. second bytes x.1 >>= λ y. Ok ((x.0, y.0), y.1)

-- two formats, one behind the other
abbrev pub both : {X Y : Type 0} → Format X → Format Y → Format (X × Y)
both f g = record { Fits = λ p. f.Fits p.0 × g.Fits p.1; spelling = λ p. f.spelling p.0 ++ g.spelling p.1; read = both_at f.read g.read }

-- the same bytes, with their value made of another, which has its parts
abbrev pub seen : {X Y : Type 0} → (X → Y) → (Y → X) → Format X → Format Y
seen make parts f = record { Fits = λ y. f.Fits (parts y); spelling = λ y. f.spelling (parts y); read = seen_at make f.read }

-- the same bytes for those values alone of which they tell all
abbrev pub seen_where : {X Y : Type 0} → (Y → Type 0) → (X → Y) → (Y → X) → Format X → Format Y
seen_where P make parts f = record {
  Fits = λ y. P y × f.Fits (parts y);
  spelling = λ y. f.spelling (parts y);
  read = seen_at make f.read;
}

-- no value has a spelling
abbrev pub nothing : {X : Type 0} → Format X
nothing = record { Fits = λ _. ⊥; spelling = λ _. []; read = λ _ at. Err (BadField at) }

-- the old format, or the other one
abbrev pub old_or : {X : Type 0} → Bool → Format X → Format X → Format X
old_or true old latest = old
old_or false old latest = latest

-- the format of a version, where version 1 has an old one
abbrev pub format_in : {X : Type 0} → ℕ → Format X → Format X → Format X
format_in version old latest = old_or (nat_eq version 1) old latest

-- three formats, one behind the other
abbrev pub three : {X Y Z : Type 0} → Format X → Format Y → Format Z → Format (X × Y × Z)
three f g h = seen (λ p. (p.0, p.1.0, p.1.1)) (λ t. (t.0, (t.1, t.2))) (both f (both g h))

-- a number of two bytes
abbrev pub number16 : Format ℕ
number16 = record { Fits = λ n. n < 2 ^ 16; spelling = field_number w16; read = number_at w16 }

-- a number of four bytes
abbrev pub number32 : Format ℕ
number32 = record { Fits = λ n. n < 2 ^ 32; spelling = field_number w32; read = number_at w32 }

-- a number of eight bytes
abbrev pub number64 : Format ℕ
number64 = record { Fits = λ n. n < 2 ^ 64; spelling = field_number w64; read = number_at w64 }

-- a truth value
abbrev pub truth : Format Bool
truth = record { Fits = λ _. Unit {0}; spelling = field_truth; read = truth_at }

-- a name
abbrev pub name : Format (List ℕ)
name = record { Fits = IsName; spelling = field_name; read = name_at }

-- a name, or none
abbrev pub optional_name : Format (Option (List ℕ))
optional_name = record { Fits = λ o. IfSome o IsName; spelling = field_optional_name; read = optional_name_at }

-- an instance
abbrev pub instance : Format Instance
instance = record { Fits = FitsInstance; spelling = field_instance; read = instance_at }

-- an instance, or none
abbrev pub optional_instance : Format (Option Instance)
optional_instance = record { Fits = λ o. IfSome o FitsInstance; spelling = field_optional_instance; read = optional_instance_at }
