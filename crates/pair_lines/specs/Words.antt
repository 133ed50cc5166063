-- The number that the program is started with.
use Rattle.std.specs.Prelude.{◌≡◌, ◌≢◌, ℕ, ◌<◌, ◌^◌, List, [], ◌∷◌, Option, Some, None}
use Rattle.std.specs.Fmt.{decimal}

-- the word is this number in digits, without a leading zero, or it is none of 32 bits
abbrev pub IsNumber : List ℕ → Option ℕ → Type 0
IsNumber word (Some number) = (number < 2 ^ 32) × (word ≡ decimal number)
IsNumber word None = (number : ℕ) → number < 2 ^ 32 → word ≢ decimal number

-- the words are the program's name and this number, or they aren't in the grammar
abbrev pub AsksFor : List (List ℕ) → Option ℕ → Type 0
AsksFor (program ∷ word ∷ []) asked = IsNumber word asked
AsksFor other asked = asked ≡ None
