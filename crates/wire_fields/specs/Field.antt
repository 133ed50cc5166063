-- How the value of each field is spelled.
use Rattle.std.specs.Prelude.{◌≡◌, ℕ, ◌+◌, Bool, List, [], ◌∷◌, ◌++◌, length, take, drop, Option, Some, None, if◌then◌else◌}
use Rattle.std.specs.Int.{Width, w32, w64, to_be_bytes}
use Rattle.diego_names.specs.declared.instance.Instance.{Instance}

-- a number, its highest byte first
unfoldable pub field_number : Width → ℕ → List ℕ
field_number = to_be_bytes

-- a byte of length, and the bytes of the name
unfoldable pub field_name : List ℕ → List ℕ
field_name name = length name ∷ name

-- a zero byte, or a name
unfoldable pub field_optional_name : Option (List ℕ) → List ℕ
field_optional_name None = 0 ∷ []
field_optional_name (Some name) = field_name name

-- 0 or 1
unfoldable pub field_truth : Bool → List ℕ
field_truth b = (if b then 1 else 0) ∷ []

-- the epoch, and then the number
unfoldable pub field_instance : Instance → List ℕ
field_instance i = field_number w64 i.epoch ++ field_number w32 i.number

-- 0, or 1 and the instance
unfoldable pub field_optional_instance : Option Instance → List ℕ
field_optional_instance None = 0 ∷ []
field_optional_instance (Some i) = 1 ∷ field_instance i

-- these bytes with the text in place of those from `at` on
unfoldable pub written : List ℕ → ℕ → List ℕ → List ℕ
written out at text = take at out ++ (text ++ drop (at + length text) out)

-- the text was written over the old bytes from `at` on, and ends at the place after it
pub record PutsText (old : List ℕ) (at : ℕ) (text : List ℕ) (new : List ℕ) (after : ℕ) : Type 0 where
  pub bytes : new ≡ written old at text
  pub place : after ≡ at + length text
