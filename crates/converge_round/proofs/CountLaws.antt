-- What starts count, one after another.
use Rattle.std.proofs.Common.{◌≡◌, ℕ, ◌+◌, ◌<◌, List, [], ◌∷◌, ◌++◌, length, get_or, take, refl, sym, ap, ◌∙◌}
use Rattle.std.proofs.lemmas.List.{take_more}
use Rattle.converge_round.specs.Starts.{counted_end, counted_all}
use Rattle.converge_round.specs.declared.claims.Claimed.{Claimed}
use Rattle.converge_round.specs.declared.tally.Tally.{Tally}

pub counted_append : (xs ys : List Claimed) (t : Tally) → counted_all (xs ++ ys) t ≡ counted_all ys (counted_all xs t)
counted_append [] ys t = refl
counted_append (x ∷ xs) ys t = counted_append xs ys (counted_end x.end t)

-- one more
pub counted_more : (xs : List Claimed) (k : ℕ) (x : Claimed) (t u w : Tally) → k < length xs → x ≡ get_or xs k x
    → u ≡ counted_all (take k xs) t → w ≡ counted_end x.end u → w ≡ counted_all (take (k + 1) xs) t
counted_more xs k x t u w within read f h =
    let more : take (k + 1) xs ≡ take k xs ++ x ∷ [] = take_more xs k x within ∙ ap (λ y. take k xs ++ y ∷ [])
    (sym read) in
    h ∙ ap (counted_end x.end) f ∙ sym (ap (λ ys. counted_all ys t) more ∙ counted_append (take k xs) (x ∷ []) t)
