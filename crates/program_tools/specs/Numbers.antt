-- The numbers that stand among the words: digits without a zero in front, below 2 ^ 32.
use Rattle.std.specs.Prelude.{ℕ, ◌==◌, Bool, true, false, not, ◌&&◌, nat_lt, List, [], ◌∷◌, Option, Some, None, if◌then◌else◌}
use Rattle.std.specs.Char.{is_ascii_digit}
use Rattle.std.specs.List.{list_all}
use Rattle.std.specs.Str.Parse.{digits_value}

-- a text begins as a number does: it isn't empty, and with no zero (48) that others follow
abbrev pub begins_as_number : List ℕ → Bool
begins_as_number [] = false
begins_as_number (x ∷ []) = true
begins_as_number (x ∷ y ∷ more) = not (x == 48)

-- a text has digits alone
abbrev pub is_digits : List ℕ → Bool
is_digits text = list_all (λ c. is_ascii_digit c) text

-- the number that a text is
abbrev pub number_of : List ℕ → Option ℕ
number_of text =
    if begins_as_number text && (is_digits text && nat_lt (digits_value 10 text) 4294967296)
    then Some (digits_value 10 text) else None
