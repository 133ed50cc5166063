-- A name is a text.
use Rattle.std.proofs.Common.{◌≡◌, ℕ, ◌<◌, List, length, true, arith, inl, inr}
use Rattle.std.specs.Str.{IsUtf8, IsAscii}
use Rattle.std.proofs.lemmas.Bool.{cases_lt}
use Rattle.std.proofs.lemmas.Bool.Decides.{nat_tests}
use Rattle.std.proofs.lemmas.List.{get_or_past}
use Rattle.std.proofs.lemmas.Str.{IsUtf8-from_ascii}
use Rattle.diego_names.specs.Name.{is_name_byte, IsName}

is_name_byte-ascii : (b : ℕ) → is_name_byte b ≡ true → b < 128
is_name_byte-ascii b e = grind (arith, nat_tests)

IsAscii-name : (bytes : List ℕ) → IsName bytes → IsAscii bytes
IsAscii-name bytes name i =
    elim (cases_lt i (length bytes)) [
      | inl lt ↦ is_name_byte-ascii _ (name.each i 0 lt)
      | inr le ↦ rw (get_or_past bytes i 0 le) (omega arith)
    ]

pub IsUtf8-name : (bytes : List ℕ) → IsName bytes → IsUtf8 bytes
IsUtf8-name bytes name = IsUtf8-from_ascii bytes (IsAscii-name bytes name)
