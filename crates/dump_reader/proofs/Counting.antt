-- What is too many with so many more.
use Rattle.std.proofs.Common.{◌≡◌, ◌∙◌, ℕ, ◌+◌, ◌-◌, ◌<◌, ◌≤◌, ltb, sym, inl, inr, arith}
use Rattle.std.proofs.lemmas.Bool.{cases_Bool, le-ltb, lt-ltb, ltb-false, ltb-true}

-- more than there is room for is more than the limit in all
pub over_limit : (limit told more : ℕ) → told ≤ limit → ltb (limit - told) more ≡ ltb limit (told + more)
over_limit limit told more few = elim (cases_Bool (ltb (limit - told) more)) [
  | inl over ↦ let less = ltb-true (limit - told) more over in over ∙ sym (lt-ltb limit (told + more) (omega arith))
  | inr within ↦ let most = ltb-false (limit - told) more within in
      within ∙ sym (le-ltb limit (told + more) (omega arith))
]
