-- What a name is.
use Rattle.std.specs.Prelude.{ℕ, ◌<◌, ◌≤◌, ◌==◌, Bool, ◌||◌, not, List, length, Option, position}
use Rattle.std.specs.List.{AllPass}
use Rattle.std.specs.Char.{is_ascii_alphanumeric}

-- an ASCII letter, a digit, a point, an underscore or a hyphen
abbrev pub is_name_byte : ℕ → Bool
is_name_byte b = is_ascii_alphanumeric b || (b == 46 || (b == 95 || b == 45))

-- 1 to 80 bytes that a name may have
pub record IsName (bytes : List ℕ) : Type 0 where
  pub not_empty : 0 < length bytes
  pub not_too_long : length bytes ≤ 80
  pub each : AllPass is_name_byte bytes

-- where the first byte stands that no name has
abbrev pub first_bad_byte : List ℕ → Option ℕ
first_bad_byte bytes = position (λ b. not (is_name_byte b)) bytes
