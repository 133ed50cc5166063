-- Where every byte is one that a name may have, there is no bad one.
use Rattle.std.proofs.Common.{◌≡◌, ℕ, List, true, not, length, None, ap, arith}
use Rattle.std.specs.List.{list_all, position_or_len}
use Rattle.std.proofs.lemmas.Bool.Decides.{nat_tests}
use Rattle.std.proofs.lemmas.List.Sums.{AllPass-from_list_all, position_or_len_is}
use Rattle.diego_names.specs.Name.{is_name_byte, first_bad_byte}

no_place : (bytes : List ℕ) → list_all is_name_byte bytes ≡ true
    → position_or_len (λ b. not (is_name_byte b)) bytes ≡ length bytes
no_place bytes e =
    position_or_len_is (λ b. not (is_name_byte b)) bytes (length bytes) 0 (omega arith)
    (λ k lt. ap not (AllPass-from_list_all is_name_byte bytes e k 0 lt)) (λ lt. absurd (omega (arith, lt)))

pub no_bad_byte : (bytes : List ℕ) → list_all is_name_byte bytes ≡ true → None ≡ first_bad_byte bytes
no_bad_byte bytes e = grind (arith, nat_tests, no_place bytes e)
