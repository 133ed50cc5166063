-- How a name lies in its 80 bytes.
use Rattle.std.specs.Prelude.{◌≡◌, ℕ, ◌-◌, ◌≤◌, List, ◌++◌, length, take, drop, replicate}
use Rattle.std.proofs.Common.{arith, length-take-le, take-append-drop}
use Rattle.diego_names.specs.Name.{IsName}
use Rattle.diego_names.specs.declared.name.Name.TheInside.{Inside}

-- the bytes of the name
abbrev pub name_view : Inside → List ℕ
name_view a = take a.len a.bytes

-- the first `len` bytes are a name, and the others are 0
pub record IsNameInside (a : Inside) : Type 0 where
  pub whole : length a.bytes ≡ 80
  pub len : a.len ≤ 80
  pub name : IsName (take a.len a.bytes)
  pub rest : drop a.len a.bytes ≡ replicate (80 - a.len) 0

-- how a name is kept
abbrev pub name_inverse : List ℕ → Inside
name_inverse bytes = record { bytes = bytes ++ replicate (80 - length bytes) 0; len = length bytes }

-- the bytes of a name tell how it is kept
pub name_inverse-name_view : (a : Inside) → IsNameInside a → name_inverse (name_view a) ≡ a
name_inverse-name_view a h i =
    let len : length (take a.len a.bytes) ≡ a.len = length-take-le a.len a.bytes (omega (arith, h.whole, h.len)) in
    let bytes : take a.len a.bytes ++ replicate (80 - length (take a.len a.bytes)) 0 ≡ a.bytes =
    rw (len, ← h.rest) (take-append-drop a.len a.bytes) in
    record { bytes = bytes i; len = len i }
