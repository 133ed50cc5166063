-- What keeps numbers rising: a change that leaves them, a choice of some, a greater one behind the others.
use Rattle.std.proofs.Common.{◌≡◌, Bool, true, false, cond, ◌&&◌, T, List, [], ◌∷◌, ◌++◌, map, filter, refl, sym, ap, subst, ◌∙◌}
use Rattle.std.specs.declared.cmp.Ordering.{Ordering}
use Rattle.std.specs.declared.cmp.Ordering.TheVariants.{Less}
use Rattle.std.specs.FinMap.Entries.{is_sorted, below_all}
use Rattle.std.specs.List.{All}
use Rattle.std.specs.Ordering.{is_lt}
use Rattle.std.proofs.lemmas.List.Elements.{All-head, All-tail}
use Rattle.row_tables.specs.Table.{keyed, IsRising}
use Rattle.row_tables.proofs.Public.{first_of_both, second_of_both, below_rest, IsRising-tail}

both : (a b : Bool) → T a → T b → T (a && b)
both true b p q = q
both false b p q = p

test_from_less : (o : Ordering) → o ≡ Less → T (is_lt o)
test_from_less o e = subst (λ q. T (is_lt q)) (sym e) tt

module _ {K X : Type 0} (R : K → K → Ordering) (key : X → K) where
  below_all-map : (g : X → X) → ((x : X) → key (g x) ≡ key x) → (k : K) (xs : List X)
      → below_all R k (keyed R key (map g xs)) ≡ below_all R k (keyed R key xs)
  below_all-map g same k [] = refl
  below_all-map g same k (x ∷ xs) =
      ap (λ q. is_lt (R k q) && below_all R k (keyed R key (map g xs))) (same x)
      ∙ ap (λ b. is_lt (R k (key x)) && b) (below_all-map g same k xs)

  is_sorted-map : (g : X → X) → ((x : X) → key (g x) ≡ key x) → (xs : List X)
      → is_sorted R (keyed R key (map g xs)) ≡ is_sorted R (keyed R key xs)
  is_sorted-map g same [] = refl
  is_sorted-map g same (x ∷ xs) =
      ap (λ q. below_all R q (keyed R key (map g xs)) && is_sorted R (keyed R key (map g xs))) (same x)
      ∙ ap (λ b. b && is_sorted R (keyed R key (map g xs))) (below_all-map g same (key x) xs)
      ∙ ap (λ b. below_all R (key x) (keyed R key xs) && b) (is_sorted-map g same xs)

  -- rows that keep their keys keep rising
  pub IsRising-map : (g : X → X) → ((x : X) → key (g x) ≡ key x) → (xs : List X) → IsRising R key xs
      → IsRising R key (map g xs)
  IsRising-map g same xs h = subst T (sym (is_sorted-map g same xs)) h

  below_all-filter : (p : X → Bool) (k : K) (xs : List X) → T (below_all R k (keyed R key xs))
      → T (below_all R k (keyed R key (filter p xs)))
  below_all-filter p k [] h = h
  below_all-filter p k (x ∷ xs) h =
      let first = first_of_both (is_lt (R k (key x))) (below_all R k (keyed R key xs)) h in
      let rest = below_all-filter p k xs (second_of_both (is_lt (R k (key x))) (below_all R k (keyed R key xs)) h) in
      elim (p x) as (λ b. T (below_all R k (keyed R key (cond b (x ∷ filter p xs) (filter p xs))))) [
        | true ↦ both (is_lt (R k (key x))) (below_all R k (keyed R key (filter p xs))) first rest
        | false ↦ rest
      ]

  -- some of the rows rise as all do
  pub IsRising-filter : (p : X → Bool) (xs : List X) → IsRising R key xs → IsRising R key (filter p xs)
  IsRising-filter p [] h = h
  IsRising-filter p (x ∷ xs) h =
      let rest = IsRising-filter p xs (IsRising-tail R key x xs h) in
      elim (p x) as (λ b. IsRising R key (cond b (x ∷ filter p xs) (filter p xs))) [
        | true ↦ both (below_all R (key x) (keyed R key (filter p xs))) (is_sorted R (keyed R key (filter p xs)))
            (below_all-filter p (key x) xs (below_rest R key x xs h)) rest
        | false ↦ rest
      ]

  below_all-push : (k : K) (xs : List X) (y : X) → T (below_all R k (keyed R key xs)) → R k (key y) ≡ Less
      → T (below_all R k (keyed R key (xs ++ y ∷ [])))
  below_all-push k [] y h less = both (is_lt (R k (key y))) true (test_from_less (R k (key y)) less) tt
  below_all-push k (x ∷ xs) y h less =
      let first = first_of_both (is_lt (R k (key x))) (below_all R k (keyed R key xs)) h in
      let rest = second_of_both (is_lt (R k (key x))) (below_all R k (keyed R key xs)) h in
      both (is_lt (R k (key x))) (below_all R k (keyed R key (xs ++ y ∷ []))) first (below_all-push k xs y rest less)

  -- a row above all others goes behind them
  pub IsRising-push : (xs : List X) (y : X) → IsRising R key xs → All (λ x. R (key x) (key y) ≡ Less) xs
      → IsRising R key (xs ++ y ∷ [])
  IsRising-push [] y h above = tt
  IsRising-push (x ∷ xs) y h above =
      let P : X → Type 0 = λ z. R (key z) (key y) ≡ Less in
      both (below_all R (key x) (keyed R key (xs ++ y ∷ []))) (is_sorted R (keyed R key (xs ++ y ∷ [])))
      (below_all-push (key x) xs y (below_rest R key x xs h) (All-head P x xs above))
      (IsRising-push xs y (IsRising-tail R key x xs h) (All-tail P x xs above))
