-- A word as a number.
use Rattle.std.proofs.Common.{◌≡◌, ◌≢◌, ℕ, zero, suc, ◌<◌, ◌≤◌, List, length, get_or, Some, None, Ok, Err, refl, sym, ap, ◌∙◌, arith}
use Rattle.std.specs.Fmt.{decimal}
use Rattle.std.specs.Str.Parse.{AllDigits, ParsesUnsigned, digits_value}
use Rattle.std.proofs.lemmas.Fmt.{decimal-digits_value, decimal_digit, decimal_nonempty, digits_decimal, first_decimal, parse-decimal}
use Rattle.std.proofs.lemmas.Str.Parse.{IsNumeralModel, not_in_digits, parse_plain}
use Rattle.pair_lines.specs.Words.{IsNumber}

own : IsNumeralModel (AllDigits 10) (digits_value 10)
own = record { to = λ ds all. all; from = λ ds all. all; same = λ ds all. refl }

-- no number is written with a sign
pub no_sign : (word : List ℕ) → get_or word 0 0 ≡ 43 → IsNumber word None
no_sign word sign number low is =
    not_in_digits own (decimal number) 43 (digits_decimal own number (omega (arith, low)))
    (λ range. omega (arith, range.0, range.1))
    0 (decimal_nonempty number (omega (arith, low))) (ap (λ (w : List ℕ). get_or w 0 0) (sym is) ∙ sign)

-- no number but one digit begins with a zero
pub no_zero : (word : List ℕ) → get_or word 0 0 ≡ 48 → 1 < length word → IsNumber word None
no_zero word begins long zero low is = absurd (omega (arith, long, ap length (is ∙ decimal_digit 0 (omega arith))))
no_zero word begins long (suc n) low is = absurd (omega (
  arith,
  first_decimal (suc n) (omega arith) (omega (arith, low)),
  begins,
  ap (λ (w : List ℕ). get_or w 0 0) is,
))

module _ (word : List ℕ) (unsigned : get_or word 0 0 ≢ 43) where
  -- what was parsed is the number that is written so
  pub plain_ok : (number : ℕ) → (get_or word 0 0 ≡ 48 → length word ≤ 1)
      → ParsesUnsigned {E = Unit {0}} 32 10 word (Ok number) → IsNumber word (Some number)
  plain_ok number short parses =
      let (all, same) = parse_plain own {E = Unit {0}} 32 word (Ok number) parses unsigned in (
        omega (arith, same, all.2),
        sym (decimal-digits_value own word all.0 all.1 (λ begins. omega (arith, short begins, all.1))
            (omega (arith, all.2)))
            ∙ ap decimal (sym same),
      )

  -- what wasn't parsed is no number
  pub plain_err : ParsesUnsigned {E = Unit {0}} 32 10 word (Err tt) → IsNumber word None
  plain_err parses number low is =
      absurd (cc (parse-decimal {E = Unit {0}} 32 number word (Err tt) low (omega (arith, low)) is parses))
