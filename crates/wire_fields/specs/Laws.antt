-- What holds of every field.
use Rattle.std.specs.Prelude.{◌≡◌, ℕ, ◌+◌, ◌<◌, ◌≤◌, ◌^◌, List, ◌++◌, length, take, drop, Result, Ok, Err, slice_index}
use Rattle.diego_names.specs.declared.instance.Instance.{Instance}
use Rattle.wire_fields.specs.declared.fault.FieldFault.{FieldFault}
use Rattle.wire_fields.specs.declared.fault.FieldFault.TheVariants.{Short}
use Rattle.wire_fields.specs.Field.{written}

-- each is below 256
abbrev pub IsBytes : List ℕ → Type 0
IsBytes bytes = (i : ℕ) → slice_index bytes i < 256

-- the text stands in the bytes, from `at` on
pub record TextStandsAt (bytes : List ℕ) (at : ℕ) (text : List ℕ) : Type 0 where
  pub rest : List ℕ
  pub parts : drop at bytes ≡ text ++ rest

-- an instance whose numbers have a spelling
abbrev pub FitsInstance : Instance → Type 0
FitsInstance i = (i.epoch < 2 ^ 64) × (i.number < 2 ^ 32)

-- what is read is spelled so and in its range; what is spelled so is read, whatever follows, also where
-- it was written over other bytes; and a spelling that is cut off is short
pub record IsField {X : Type 0} (Fits : X → Type 0) (spelling : X → List ℕ) (read : List ℕ → ℕ → Result (X × ℕ) FieldFault) : Type 0 where
  pub spelled : (bytes : List ℕ) (at : ℕ) (x : X) (after : ℕ) → IsBytes bytes → read bytes at ≡ Ok (x, after)
      → TextStandsAt bytes at (spelling x) × (after ≡ at + length (spelling x)) × Fits x
  pub again : (bytes : List ℕ) (at : ℕ) (x : X) → Fits x → TextStandsAt bytes at (spelling x)
      → read bytes at ≡ Ok (x, at + length (spelling x))
  pub back : (out : List ℕ) (at : ℕ) (x : X) → Fits x → at + length (spelling x) ≤ length out
      → read (written out at (spelling x)) at ≡ Ok (x, at + length (spelling x))
  pub cut : (bytes : List ℕ) (at k : ℕ) (x : X) → Fits x → k < length (spelling x) → drop at bytes ≡ take k (spelling x)
      → read bytes at ≡ Err (Short (length bytes))
