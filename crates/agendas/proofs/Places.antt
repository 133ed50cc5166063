-- The place of a key among keys that rise: what stands before it, and what an edit there comes to.
use Rattle.std.proofs.Math.Seq.{take-length}
use Rattle.std.proofs.Common.{◌≡◌, ℕ, zero, suc, ◌-◌, ◌<◌, ◌≤◌, length-drop, Bool, true, false, not, cond, List, [], ◌∷◌, length, get_or, take, drop, Option, Some, None, refl, sym, ap, subst, ◌∙◌, ⊎_elim, arith}
use Rattle.std.specs.declared.cmp.Ordering.{Ordering}
use Rattle.std.specs.declared.cmp.Ordering.TheVariants.{Less, Equal, Greater}
use Rattle.std.specs.Cmp.{tied_itself}
use Rattle.std.specs.FinMap.Entries.{by_order}
use Rattle.std.specs.List.{AllWithin, Contains, filter, insert, remove}
use Rattle.std.specs.Ordering.{eq_by_cmp, is_eq, is_lt, ordering_reverse}
use Rattle.std.proofs.lemmas.Bool.{cases_lt}
use Rattle.std.proofs.lemmas.List.Elements.{All-contains}
use Rattle.row_tables.specs.Table.{IsKeyOrder, find_row, put_row, without_row, IsRising}
use Rattle.row_tables.proofs.Public.{below_rest, IsRising-tail, IsRising-put_row, IsRising-without_row, key-find_row, All-above, Contains-find_row, find_row-Contains, find_row-put_row, find_row-without_row, same_rows, same_from_tie, ties_itself}
use Rattle.agendas.specs.Agendas.{IsPlace, those_before, those_since}

module _ {K : Type 0} (P : K → Type 0) where
  -- what holds of the first holds of those before a place
  within_cons : (x : K) (xs : List K) (i : ℕ) → P x → AllWithin P xs 0 i → AllWithin P (x ∷ xs) 0 (suc i)
  within_cons x xs i p h zero d low lt = p
  within_cons x xs i p h (suc k) d low lt = h k d (omega arith) (omega arith)

  -- and of those after it
  after_cons : (x : K) (xs : List K) (i : ℕ) → AllWithin P xs i (length xs)
      → AllWithin P (x ∷ xs) (suc i) (length (x ∷ xs))
  after_cons x xs i h zero d low lt = absurd (omega arith)
  after_cons x xs i h (suc k) d low lt = h k d (omega arith) (omega arith)

  within_rest : (x : K) (xs : List K) (i : ℕ) → AllWithin P (x ∷ xs) 0 (suc i) → AllWithin P xs 0 i
  within_rest x xs i h k d low lt = h (suc k) d (omega arith) (omega arith)

  after_rest : (x : K) (xs : List K) (i : ℕ) → AllWithin P (x ∷ xs) (suc i) (length (x ∷ xs))
      → AllWithin P xs i (length xs)
  after_rest x xs i h k d low lt = h (suc k) d (omega arith) (omega arith)

  all_rest : (x : K) (xs : List K) → AllWithin P (x ∷ xs) 0 (length (x ∷ xs)) → AllWithin P xs 0 (length xs)
  all_rest x xs h k d low lt = h (suc k) d (omega arith) (omega arith)

module _ {K : Type 0} (p : K → Bool) where
  -- a filter that nothing passes leaves nothing
  filter_none : (xs : List K) → AllWithin (λ k. p k ≡ false) xs 0 (length xs) → filter p xs ≡ []
  filter_none [] h = refl
  filter_none (x ∷ xs) h =
      ap (λ b. cond b (x ∷ filter p xs) (filter p xs)) (h 0 x (omega arith) (omega arith))
      ∙ filter_none xs (all_rest (λ k. p k ≡ false) x xs h)

  -- and one that fails all leaves them all to the other
  filter_all : (xs : List K) → AllWithin (λ k. p k ≡ false) xs 0 (length xs) → filter (λ k. not (p k)) xs ≡ xs
  filter_all [] h = refl
  filter_all (x ∷ xs) h =
      let rest = filter (λ k. not (p k)) xs in
      ap (λ b. cond (not b) (x ∷ rest) rest) (h 0 x (omega arith) (omega arith))
      ∙ ap (λ ys. x ∷ ys) (filter_all xs (all_rest (λ k. p k ≡ false) x xs h))

module _ {K : Type 0} (R : K → K → Ordering) (o : IsKeyOrder R) where
  turned : (a b : K) → R a b ≡ Less → R b a ≡ Greater
  turned a b e = o.total.antisymm b a ∙ ap ordering_reverse e

  turned_back : (a b : K) → R a b ≡ Greater → R b a ≡ Less
  turned_back a b e = o.total.antisymm b a ∙ ap ordering_reverse e

  -- a key that stands at a place is found
  found_at : (q : K) (xs : List K) (i : ℕ) → IsRising R (λ k. k) xs → i < length xs → get_or xs i q ≡ q
      → find_row R (λ k. k) q xs ≡ Some q
  found_at q xs i h lt at = find_row-Contains R (λ k. k) o q xs h (i, lt, at)

  -- the first key is below one that stands after it
  first_below : (q x : K) (xs : List K) (i : ℕ) → IsRising R (λ k. k) (x ∷ xs) → i < length xs → get_or xs i q ≡ q
      → R x q ≡ Less
  first_below q x xs i h lt at =
      All-contains (λ z. R x z ≡ Less) xs q (All-above R (λ k. k) x xs (below_rest R (λ k. k) x xs h)) (i, lt, at)

  -- a put of a key that is there changes nothing
  pub put_known : (q : K) (xs : List K) (i : ℕ) → IsRising R (λ k. k) xs → i < length xs → get_or xs i q ≡ q
      → xs ≡ put_row R (λ k. k) q xs
  put_known q xs i h lt at =
      same_rows R (λ k. k) o xs (put_row R (λ k. k) q xs) h (IsRising-put_row R (λ k. k) o q xs h)
      (λ p. sym (find_row-put_row R (λ k. k) o p q xs ∙ elim (eq_by_cmp R p q) as
      (λ b. eq_by_cmp R p q ≡ b → cond b (Some q) (find_row R (λ k. k) p xs) ≡ find_row R (λ k. k) p xs) [
        | true ↦ λ t. sym (ap (λ k. find_row R (λ k. k) k xs) (same_from_tie R o p q t) ∙ found_at q xs i h lt at)
        | false ↦ λ t. refl
      ] refl))

  -- a removal of a key that isn't found changes nothing
  pub without_unknown : (q : K) (xs : List K) → IsRising R (λ k. k) xs → find_row R (λ k. k) q xs ≡ None
      → xs ≡ without_row R (λ k. k) q xs
  without_unknown q xs h none =
      same_rows R (λ k. k) o xs (without_row R (λ k. k) q xs) h (IsRising-without_row R (λ k. k) q xs h)
      (λ p. sym (find_row-without_row R (λ k. k) o p q xs ∙ elim (eq_by_cmp R p q) as
      (λ b. eq_by_cmp R p q ≡ b → cond b None (find_row R (λ k. k) p xs) ≡ find_row R (λ k. k) p xs) [
        | true ↦ λ t. sym (ap (λ k. find_row R (λ k. k) k xs) (same_from_tie R o p q t) ∙ none)
        | false ↦ λ t. refl
      ] refl))

  -- nothing is found between the keys before a place and those after it
  pub absent_at : (q : K) (xs : List K) (i : ℕ) → AllWithin (λ k. R k q ≡ Less) xs 0 i
      → AllWithin (λ k. R k q ≡ Greater) xs i (length xs) → find_row R (λ k. k) q xs ≡ None
  absent_at q xs i before after =
      elim (find_row R (λ k. k) q xs) as (λ (s : Option K). find_row R (λ k. k) q xs ≡ s → s ≡ None) [
        | None ↦ λ e. refl
        | (Some x) ↦ λ e.
            let inside : Contains xs x = Contains-find_row R (λ k. k) q x xs e in
            let tied : R (get_or xs inside.0 x) q ≡ Equal =
            ap (λ y. R y q) inside.2 ∙ ap (λ k. R k q)
            (key-find_row R (λ k. k) o q x xs e) ∙ tied_itself o.total q in
            ⊎_elim
            (λ (lt : inside.0 < i). let less : R (get_or xs inside.0 x) q ≡ Less =
            before inside.0 x (omega arith) lt in absurd cc)
            (λ (ge : i ≤ inside.0). let greater : R (get_or xs inside.0 x) q ≡ Greater =
            after inside.0 x ge inside.1 in absurd cc)
            (cases_lt inside.0 i)
      ] refl

  -- nothing after a key is that key
  first_gone : (x : K) (xs : List K) → IsRising R (λ k. k) (x ∷ xs) → find_row R (λ k. k) x xs ≡ None
  first_gone x xs h =
      elim (find_row R (λ k. k) x xs) as (λ (s : Option K). find_row R (λ k. k) x xs ≡ s → s ≡ None) [
        | None ↦ λ e. refl
        | (Some y) ↦ λ e.
            let inside : Contains xs y = Contains-find_row R (λ k. k) x y xs e in
            let less : R x y ≡ Less = All-contains (λ z. R x z ≡ Less) xs y
            (All-above R (λ k. k) x xs (below_rest R (λ k. k) x xs h)) inside in
            let tied : R x y ≡ Equal = ap (R x) (key-find_row R (λ k. k) o x y xs e) ∙ tied_itself o.total x in
            absurd cc
      ] refl

  -- a key put between those below it and those above
  pub put_absent : (q : K) (xs : List K) (i : ℕ) → i ≤ length xs → AllWithin (λ k. R k q ≡ Less) xs 0 i
      → AllWithin (λ k. R k q ≡ Greater) xs i (length xs) → insert xs i q ≡ put_row R (λ k. k) q xs
  put_absent q [] zero le before after = refl
  put_absent q [] (suc i) le before after = absurd (omega arith)
  put_absent q (x ∷ xs) zero le before after =
      sym (ap (λ c. by_order c (q ∷ x ∷ xs) (q ∷ xs) (x ∷ put_row R (λ k. k) q xs))
      (turned_back x q (after 0 x (omega arith) (omega arith))))
  put_absent q (x ∷ xs) (suc i) le before after =
      ap (λ ys. x ∷ ys) (put_absent q xs i (omega arith) (within_rest (λ k. R k q ≡ Less) x xs i before)
      (after_rest (λ k. R k q ≡ Greater) x xs i after))
      ∙ sym (ap (λ c. by_order c (q ∷ x ∷ xs) (q ∷ xs) (x ∷ put_row R (λ k. k) q xs))
      (turned x q (before 0 x (omega arith) (omega arith))))

  -- a key taken from its place
  pub remove_known : (q : K) (xs : List K) (i : ℕ) → IsRising R (λ k. k) xs → i < length xs → get_or xs i q ≡ q
      → remove xs i ≡ without_row R (λ k. k) q xs
  remove_known q [] i h lt at = absurd (omega arith)
  remove_known q (x ∷ xs) zero h lt at =
      let gone : find_row R (λ k. k) q xs ≡ None = subst (λ k. find_row R (λ k. k) k xs ≡ None) at (first_gone x xs h) in
      without_unknown q xs (IsRising-tail R (λ k. k) x xs h) gone
      ∙ sym (ap (λ b. cond b (without_row R (λ k. k) q xs) (x ∷ without_row R (λ k. k) q xs))
      (ap (eq_by_cmp R q) at ∙ ties_itself R o q))
  remove_known q (x ∷ xs) (suc i) h lt at =
      let apart : eq_by_cmp R q x ≡ false = ap is_eq (turned x q (first_below q x xs i h (omega arith) at)) in
      ap (λ ys. x ∷ ys) (remove_known q xs i (IsRising-tail R (λ k. k) x xs h) (omega arith) at)
      ∙ sym (ap (λ b. cond b (without_row R (λ k. k) q xs) (x ∷ without_row R (λ k. k) q xs)) apart)

  -- the place of a key that is there
  pub place_known : (q : K) (xs : List K) (i : ℕ) → IsRising R (λ k. k) xs → i < length xs → get_or xs i q ≡ q
      → IsPlace R q xs i
  place_known q [] i h lt at = absurd (omega arith)
  place_known q (x ∷ xs) zero h lt at =
      let none : AllWithin (λ k. R k q ≡ Less) (x ∷ xs) 0 0 = λ k d low up. absurd (omega arith) in
      let above = All-above R (λ k. k) x xs (below_rest R (λ k. k) x xs h) in
      let all : AllWithin (λ k. is_lt (R k x) ≡ false) (x ∷ xs) 0 (length (x ∷ xs)) =
      within_cons (λ k. is_lt (R k x) ≡ false) x xs (length xs) (ap is_lt (tied_itself o.total x))
      (λ k d low up. ap is_lt (turned x (get_or xs k d) (above k d up))) in
      (none, subst (λ r. AllWithin (λ k. is_lt (R k r) ≡ false) (x ∷ xs) 0 (length (x ∷ xs))) at all)
  place_known q (x ∷ xs) (suc i) h lt at =
      let rest = place_known q xs i (IsRising-tail R (λ k. k) x xs h) (omega arith) at in (
        within_cons (λ k. R k q ≡ Less) x xs i (first_below q x xs i h (omega arith) at) rest.0,
        after_cons (λ k. is_lt (R k q) ≡ false) x xs i rest.1,
      )

  -- the place of a key that isn't
  pub place_absent : (q : K) (xs : List K) (i : ℕ) → AllWithin (λ k. R k q ≡ Less) xs 0 i
      → AllWithin (λ k. R k q ≡ Greater) xs i (length xs) → IsPlace R q xs i
  place_absent q xs i before after = (before, λ k d low up. ap is_lt (after k d low up))

  -- those before the key stand below its place
  pub before_place : (q : K) (xs : List K) (i : ℕ) → IsPlace R q xs i → take i xs ≡ those_before R q xs
  before_place q [] zero at = refl
  before_place q [] (suc i) at = refl
  before_place q (x ∷ xs) zero at = sym (filter_none (λ k. is_lt (R k q)) (x ∷ xs) at.1)
  before_place q (x ∷ xs) (suc i) at =
      let rest = those_before R q xs in
      ap (λ ys. x ∷ ys) (before_place q xs i (
        within_rest (λ k. R k q ≡ Less) x xs i at.0,
        after_rest (λ k. is_lt (R k q) ≡ false) x xs i at.1,
      ))
      ∙ sym (ap (λ c. cond (is_lt c) (x ∷ rest) rest) (at.0 0 x (omega arith) (omega arith)))

  -- and the others from it on
  pub since_place : (q : K) (xs : List K) (i : ℕ) → IsPlace R q xs i → drop i xs ≡ those_since R q xs
  since_place q [] zero at = refl
  since_place q [] (suc i) at = refl
  since_place q (x ∷ xs) zero at = sym (filter_all (λ k. is_lt (R k q)) (x ∷ xs) at.1)
  since_place q (x ∷ xs) (suc i) at =
      let rest = those_since R q xs in
      since_place q xs i (
        within_rest (λ k. R k q ≡ Less) x xs i at.0,
        after_rest (λ k. is_lt (R k q) ≡ false) x xs i at.1,
      )
      ∙ sym (ap (λ c. cond (not (is_lt c)) (x ∷ rest) rest) (at.0 0 x (omega arith) (omega arith)))

-- what is left behind a place is all of it
pub all_after : {K : Type 0} (xs : List K) (i : ℕ) → take (length xs - i) (drop i xs) ≡ drop i xs
all_after xs i = ap (λ n. take n (drop i xs)) (sym (length-drop i xs)) ∙ take-length (drop i xs)

-- what is left of keys, of which a slice was searched, once the key that was found is taken away
pub taken_at : {K : Type 0} (R : K → K → Ordering) (o : IsKeyOrder R) (q : K) (xs ys zs : List K) (i : ℕ) → xs ≡ ys
    → IsRising R (λ k. k) ys → i < length xs → R (get_or xs i q) q ≡ Equal → zs ≡ remove ys i
    → zs ≡ without_row R (λ k. k) q ys
taken_at R o q xs ys zs i same h lt tied is =
    let at : get_or ys i q ≡ q = ap (λ l. get_or l i q) (sym same) ∙ o.exact (get_or xs i q) q tied in
    let within : i < length ys = subst (λ l. i < length l) same lt in
    is ∙ remove_known R o q ys i h within at
