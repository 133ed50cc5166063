-- The number that a text is, as std parses it.
use Rattle.std.proofs.Common.{rules, ◌≡◌, ◌<◌, ℕ, true, false, true≢false, List, [], ◌∷◌, length, Some, Result, Ok, Err, refl, sym, ap, arith, inl, inr}
use Rattle.std.specs.Prelude.{nat_lt}
use Rattle.std.specs.Result.{result_ok}
use Rattle.std.specs.Str.Parse.{ParsesUnsigned, digits_value}
use Rattle.std.proofs.lemmas.Bool.{cases_Bool}
use Rattle.std.proofs.lemmas.Bool.Decides.{nat_tests}
use Rattle.std.proofs.lemmas.Str.Parse.{IsDigitsTest, IsNumeralModel, numerals_by_value, parse_digits}
use Rattle.program_tools.specs.Numbers.{begins_as_number, is_digits, number_of}

tells : IsDigitsTest (λ ds. is_digits ds ≡ true)
tells = search rules

own : IsNumeralModel (λ ds. is_digits ds ≡ true) (digits_value 10)
own = numerals_by_value _ tells

-- a text that begins as a number isn't empty
some_digit : (text : List ℕ) → begins_as_number text ≡ true → 0 < length text
some_digit [] begins = absurd (true≢false (sym begins))
some_digit (x ∷ more) begins = omega arith

less : (n : ℕ) → n < 4294967296 → nat_lt n 4294967296 ≡ true
less n below = grind (arith, nat_tests)

below : (n : ℕ) → nat_lt n 4294967296 ≡ true → n < 4294967296
below n is = grind (arith, nat_tests)

-- digits that begin as a number are the number that they are parsed as, or above all numbers
pub parsed : {E : Type 0} (text : List ℕ) (r : Result ℕ E) → begins_as_number text ≡ true → is_digits text ≡ true
    → ParsesUnsigned 32 10 text r → result_ok r ≡ number_of text
parsed {E} text (Ok n) begins digits parses =
    let within = parse_digits own {E = E} 32 text (Ok n) parses digits in
    rw (begins, digits, less (digits_value 10 text) within.0.1) (ap Some within.1)
parsed {E} text (Err e) begins digits parses =
    let outside = parse_digits own {E = E} 32 text (Err e) parses digits in
    elim (cases_Bool (nat_lt (digits_value 10 text) 4294967296)) [
      | inl small ↦ absurd (outside (some_digit text begins, below (digits_value 10 text) small))
      | inr large ↦ rw (begins, digits, large) refl
    ]
