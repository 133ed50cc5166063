-- What holds of two halves of a list holds of the whole, for forks.rt.
use Rattle.std.proofs.Common.{◌≡◌, ℕ, ◌+◌, ◌-◌, ◌<◌, ◌≤◌, ◌^◌, List, ◌++◌, length, get_or, set, refl, sym, ap, ◌∙◌, subst, ⊎_elim, arith}
use Rattle.std.proofs.lemmas.List.{length-set, get_or-set_same, length-append, get_or_append_left, get_or-append_right}
use Rattle.std.proofs.lemmas.Bool.{cases_lt}
use Rattle.busy_threads.specs.Places.{AreReady, AreChanged}

module _ {X : Type 0} (P : ℕ → X → Type 0) where
  pub front_of : (base : ℕ) (all xs ys : List X) → all ≡ xs ++ ys → 0 < length xs → AreReady P base all
      → AreReady P base xs
  front_of base all xs ys is some r =
      record {
        some = some;
        room = omega (arith, r.room, ap length is, length-append xs ys);
        each = λ k d lt. subst (P (base + k)) (ap (λ l. get_or l k d) is ∙ get_or_append_left xs ys d k lt)
            (r.each k d (omega (arith, ap length is, length-append xs ys)));
      }

  pub back_of : (base h middle : ℕ) (all xs ys : List X) → all ≡ xs ++ ys → length xs ≡ h → middle ≡ base + h
      → h < length all → AreReady P base all → AreReady P middle ys
  back_of base h middle all xs ys is count at inside r =
      record {
        some = omega (arith, ap length is, length-append xs ys);
        room = omega (arith, r.room, ap length is, length-append xs ys);
        each = λ k d lt. subst (λ n. P n (get_or ys k d)) {x = base + (h + k)} (omega arith)
            (subst (P (base + (h + k))) (ap (λ l. get_or l (h + k) d) is
            ∙ (get_or-append_right xs ys h (h + k) d count (omega arith) ∙ ap (λ n. get_or ys n d) {x = h + k - h}
            (omega arith)))
            (r.each (h + k) d (omega (arith, ap length is, length-append xs ys))));
      }

module _ {X : Type 0} (R : ℕ → X → X → Type 0) where
  pub by_both : (base h middle : ℕ) (all xs ys xs' ys' : List X) → all ≡ xs ++ ys → length xs ≡ h → middle ≡ base + h →
      AreChanged R base xs xs' → AreChanged R middle ys ys' → AreChanged R base all (xs' ++ ys')
  by_both base h middle all xs ys xs' ys' is count at a b =
      let count' : length xs' ≡ h = a.length_is ∙ count in
      record {
        length_is = omega (arith, ap length is, length-append xs ys, length-append xs' ys', a.length_is, b.length_is);
        each = λ k d lt. ⊎_elim
            (λ p. subst (λ x. R (base + k) x (get_or (xs' ++ ys') k d))
            (sym (ap (λ l. get_or l k d) is ∙ get_or_append_left xs ys d k (omega arith)))
            (subst (R (base + k) (get_or xs k d)) (sym (get_or_append_left xs' ys' d k (omega arith)))
            (a.each k d (omega arith))))
            (λ p. subst (λ x. R (base + k) x (get_or (xs' ++ ys') k d))
            (sym (ap (λ l. get_or l k d) is ∙ get_or-append_right xs ys h k d count p))
            (subst (R (base + k) (get_or ys (k - h) d)) (sym (get_or-append_right xs' ys' h k d count' p))
            (subst (λ n. R n (get_or ys (k - h) d) (get_or ys' (k - h) d)) {x = middle + (k - h)} (omega arith)
            (b.each (k - h) d (omega (arith, ap length is, length-append xs ys))))))
            (cases_lt k h);
      }

  -- a list of one place
  pub by_one : (base : ℕ) (xs : List X) (y : X) → length xs ≡ 1 → ((d : X) → R base (get_or xs 0 d) y) →
      AreChanged R base xs (set xs 0 y)
  by_one base xs y count r =
      record {
        length_is = length-set xs 0 y;
        each = λ k d lt. let z : k ≡ 0 = omega arith in
            subst (λ j. R (base + j) (get_or xs j d) (get_or (set xs 0 y) j d)) (sym z)
            (subst (λ n. R n (get_or xs 0 d) (get_or (set xs 0 y) 0 d)) {x = base} (omega arith)
            (subst (R base (get_or xs 0 d)) (sym (get_or-set_same xs 0 y d (omega arith))) (r d)));
      }
