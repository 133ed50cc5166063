-- Names that are put into a set one by one.
use Rattle.std.proofs.Common.{◌≡◌, ℕ, ◌+◌, ◌<◌, Bool, true, false, cond, ◌||◌, List, length, take, get_or, refl, sym, ap, ◌∙◌}
use Rattle.std.specs.List.{list_any}
use Rattle.std.proofs.lemmas.List.Folds.{list_any_more}

pub or_last : (b a : Bool) → cond b true a ≡ (a || b)
or_last true true = refl
or_last true false = refl
or_last false true = refl
or_last false false = refl

-- whether one of them is so, with one element more
pub any_next : {X : Type 0} (p : X → Bool) (xs : List X) (i : ℕ) (x : X) → i < length xs → x ≡ get_or xs i x
    → list_any p (take (i + 1) xs) ≡ (list_any p (take i xs) || p x)
any_next {X} p xs i x lt e = list_any_more p xs i x lt ∙ ap (λ (g : X). list_any p (take i xs) || p g) (sym e)
