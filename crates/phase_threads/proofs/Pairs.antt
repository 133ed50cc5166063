-- What stands at the places of lists.
use Rattle.std.proofs.Common.{◌≡◌, ◌⊎◌, inl, inr, ◌||◌, ℕ, zero, suc, ◌+◌, ◌<◌, Bool, true, false, List, [], ◌∷◌, ◌++◌, length, map, take, drop, set, get_or, Some, refl, sym, ap, subst, ◌∙◌, arith}
use mathlib.Core.Option.{some}
use lib.ListN.{get_elem?}
use Rattle.std.specs.List.{slice_get, list_any}
use Rattle.std.proofs.lemmas.List.{append-nil, drop_all, length-append, take_all, take_more}
use Rattle.std.proofs.lemmas.Option.{slice_get_within}
use Rattle.phase_runs.proofs.Public.{one_of}
use Rattle.phase_threads.specs.Sharing.{AtEach}

or_false : (a b : Bool) → (a || b) ≡ false → (a ≡ false) × (b ≡ false)
or_false true b e = cc (e)
or_false false b e = (refl, e)

module _ {A : Type 0} where
  -- the one word for a place in terms of the other
  pub as_elem : (xs : List A) (k : ℕ) (x : A) → slice_get xs k ≡ Some x → get_elem? xs k ≡ some x
  as_elem [] k x is = absurd (omega (arith, slice_get_within none k x is))
    where
      none : List A
      none = []
  as_elem (y ∷ ys) zero x is = ap some (one_of (Some y) y x refl is)
  as_elem (y ∷ ys) (suc k) x is = as_elem ys k x is

  pub as_slice : (xs : List A) (k : ℕ) (x : A) → get_elem? xs k ≡ some x → slice_get xs k ≡ Some x
  as_slice [] k x is = cc (is)
  as_slice (y ∷ ys) zero x is = cc (is)
  as_slice (y ∷ ys) (suc k) x is = as_slice ys k x is

  -- something stands at each place
  pub stands : (xs : List A) (k : ℕ) → k < length xs → (x : A) × (slice_get xs k ≡ Some x)
  stands [] k within = absurd (omega (arith, within))
  stands (y ∷ ys) zero within = (y, refl)
  stands (y ∷ ys) (suc k) within = stands ys k (omega (arith, within))

  -- the next one and those behind it
  pub next_is : (xs : List A) (i : ℕ) (x : A) (rest : List A) → drop i xs ≡ x ∷ rest
      → (slice_get xs i ≡ Some x) × (drop (i + 1) xs ≡ rest)
  next_is xs i x rest is = (here xs i is, ap (λ n. drop n xs) one_up ∙ behind xs i is)
    where
      one_up : i + 1 ≡ suc i
      one_up = omega arith

      here : (l : List A) (n : ℕ) → drop n l ≡ x ∷ rest → slice_get l n ≡ Some x
      here [] zero e = cc (e)
      here [] (suc n) e = cc (e)
      here (y ∷ ys) zero e = cc (e)
      here (y ∷ ys) (suc n) e = here ys n e

      behind : (l : List A) (n : ℕ) → drop n l ≡ x ∷ rest → drop (suc n) l ≡ rest
      behind [] zero e = cc (e)
      behind [] (suc n) e = cc (e)
      behind (y ∷ ys) zero e = cc (e)
      behind (y ∷ ys) (suc n) e = behind ys n e

  -- it stands among those before, or is the last
  pub at_end : (xs : List A) (y : A) (k : ℕ) (x : A) → slice_get (xs ++ y ∷ []) k ≡ Some x
      → (slice_get xs k ≡ Some x) ⊎ ((k ≡ length xs) × (y ≡ x))
  at_end [] y zero x is = inr (refl, one_of (Some y) y x refl is)
  at_end [] y (suc k) x is = absurd (omega (arith, slice_get_within none k x is))
    where
      none : List A
      none = []
  at_end (z ∷ zs) y zero x is = inl is
  at_end (z ∷ zs) y (suc k) x is = further (at_end zs y k x is)
    where
      further : (slice_get zs k ≡ Some x) ⊎ ((k ≡ length zs) × (y ≡ x))
          → (slice_get zs k ≡ Some x) ⊎ ((suc k ≡ suc (length zs)) × (y ≡ x))
      further (inl e) = inl e
      further (inr (e, same)) = inr (ap suc e, same)

  -- where none has it, the one at a place hasn't
  pub none_has : (has : A → Bool) (xs : List A) (k : ℕ) (x : A) → list_any has xs ≡ false → slice_get xs k ≡ Some x
      → has x ≡ false
  none_has has [] k x none is = absurd (omega (arith, slice_get_within empty k x is))
    where
      empty : List A
      empty = []
  none_has has (y ∷ ys) zero x none is = ap has (sym (one_of (Some y) y x refl is)) ∙
      (or_false (has y) (list_any has ys) none).0
  none_has has (y ∷ ys) (suc k) x none is = none_has has ys k x (or_false (has y) (list_any has ys) none).1 is

module _ {A B : Type 0} where
  -- what stands at a place of a list of images is the image of what stands there
  pub image_at : (xs : List A) (f : A → B) (k : ℕ) (x : A) (y : B) → slice_get xs k ≡ Some x
      → slice_get (map f xs) k ≡ Some y → f x ≡ y
  image_at [] f k x y is is' = absurd (omega (arith, slice_get_within none k x is))
    where
      none : List A
      none = []
  image_at (z ∷ zs) f zero x y is is' = ap f (sym (one_of (Some z) z x refl is)) ∙ one_of (Some (f z)) (f z) y refl is'
  image_at (z ∷ zs) f (suc k) x y is is' = image_at zs f k x y is is'

  -- what stands at a place has its image there
  pub image_of : (xs : List A) (f : A → B) (k : ℕ) (x : A) → slice_get xs k ≡ Some x
      → slice_get (map f xs) k ≡ Some (f x)
  image_of [] f k x is = cc (is)
  image_of (y ∷ ys) f zero x is = ap (λ z. Some (f z)) (one_of (Some y) y x refl is)
  image_of (y ∷ ys) f (suc k) x is = image_of ys f k x is

  -- one more of both
  pub each_more : (R : ℕ → A → B → Type 0) (xs : List A) (ys : List B) (i : ℕ) (d : A) (y : B) → i < length xs
      → AtEach R (take i xs) ys
      → R i (get_or xs i d) y → AtEach R (take (i + 1) xs) (ys ++ y ∷ [])
  each_more R xs ys i d y within before is =
      subst (λ l. AtEach R l (ys ++ y ∷ [])) (sym (take_more xs i d within)) (record {
        length_is = length-append ys (y ∷ []) ∙ ap (λ n. n + 1) before.length_is ∙ sym
            (length-append (take i xs) (get_or xs i d ∷ []));
        at = λ k a b here there. at_place k a b (at_end (take i xs) (get_or xs i d) k a here) (at_end ys y k b there);
      })
    where
      count : length (take i xs) ≡ i
      count = length_of_take xs i within
        where
          length_of_take : (l : List A) (n : ℕ) → n < length l → length (take n l) ≡ n
          length_of_take [] n lt = absurd (omega (arith, lt))
          length_of_take (z ∷ zs) zero lt = refl
          length_of_take (z ∷ zs) (suc n) lt = ap suc (length_of_take zs n (omega (arith, lt)))

      at_place : (k : ℕ) (a : A) (b : B) → (slice_get (take i xs) k ≡ Some a)
          ⊎ ((k ≡ length (take i xs)) × (get_or xs i d ≡ a))
          → (slice_get ys k ≡ Some b) ⊎ ((k ≡ length ys) × (y ≡ b)) → R k a b
      at_place k a b (inl here) (inl there) = before.at k a b here there
      at_place k a b (inl here) (inr (end, last)) = absurd
          (omega (arith, slice_get_within (take i xs) k a here, end, before.length_is))
      at_place k a b (inr (end, last)) (inl there) = absurd
          (omega (arith, slice_get_within ys k b there, end, before.length_is))
      at_place k a b (inr (end, last)) (inr (end', last')) =
          subst (λ n. R n a b) (sym (end ∙ count)) (subst (λ x. R i x b) last (subst (R i (get_or xs i d)) last' is))

  -- the lists as a whole
  pub each_all : (R : ℕ → A → B → Type 0) (xs : List A) (ys : List B) (i : ℕ) → take i xs ≡ xs → AtEach R (take i xs) ys
      → AtEach R xs ys
  each_all R xs ys i whole each = subst (λ l. AtEach R l ys) whole each

  -- the images of one more
  pub images_more : (xs : List A) (f : A → B) (i : ℕ) (x : A) → slice_get xs i ≡ Some x
      → map f (take (i + 1) xs) ≡ map f (take i xs) ++ f x ∷ []
  images_more xs f i x is = subst (λ n. map f (take n xs) ≡ map f (take i xs) ++ f x ∷ []) one_up (up xs i is)
    where
      one_up : suc i ≡ i + 1
      one_up = omega arith

      up : (l : List A) (n : ℕ) → slice_get l n ≡ Some x → map f (take (suc n) l) ≡ map f (take n l) ++ f x ∷ []
      up [] n e = absurd (omega (arith, slice_get_within none n x e))
        where
          none : List A
          none = []
      up (y ∷ ys) zero e = ap (λ z. f z ∷ []) (one_of (Some y) y x refl e)
      up (y ∷ ys) (suc n) e = ap (λ l. f y ∷ l) (up ys n e)

module _ {A : Type 0} where
  -- the first ones, when the next was set
  pub first_set : (xs : List A) (i : ℕ) (x : A) → i < length xs → take (i + 1) (set xs i x) ≡ take i xs ++ x ∷ []
  first_set xs i x within = subst (λ n. take n (set xs i x) ≡ take i xs ++ x ∷ []) one_up (up xs i within)
    where
      one_up : suc i ≡ i + 1
      one_up = omega arith

      up : (l : List A) (n : ℕ) → n < length l → take (suc n) (set l n x) ≡ take n l ++ x ∷ []
      up [] n lt = absurd (omega (arith, lt))
      up (y ∷ ys) zero lt = refl
      up (y ∷ ys) (suc n) lt = ap (λ l. y ∷ l) (up ys n (omega (arith, lt)))

  none : List A
  none = []

  -- those behind it
  pub behind_set : (xs ys : List A) (i : ℕ) (x : A) → drop i xs ≡ drop i ys
      → drop (i + 1) (set xs i x) ≡ drop (i + 1) ys
  unfolding none
  behind_set xs ys i x same = subst (λ n. drop n (set xs i x) ≡ drop n ys) one_up (kept xs i ∙ later xs ys i same)
    where
      one_up : suc i ≡ i + 1
      one_up = omega arith

      kept : (l : List A) (n : ℕ) → drop (suc n) (set l n x) ≡ drop (suc n) l
      kept [] n = refl
      kept (y ∷ ys) zero = refl
      kept (y ∷ ys) (suc n) = kept ys n

      none_left : (n : ℕ) → drop n none ≡ drop (suc n) none
      none_left zero = refl
      none_left (suc n) = refl

      later : (l m : List A) (n : ℕ) → drop n l ≡ drop n m → drop (suc n) l ≡ drop (suc n) m
      later [] [] n e = refl
      later [] (z ∷ zs) zero e = cc (e)
      later [] (z ∷ zs) (suc n) e = later [] zs n (none_left n ∙ e)
      later (y ∷ ys) [] zero e = cc (e)
      later (y ∷ ys) [] (suc n) e = later ys [] n (e ∙ sym (none_left n))
      later (y ∷ ys) (z ∷ zs) zero e = cc (e)
      later (y ∷ ys) (z ∷ zs) (suc n) e = later ys zs n e

  -- the next one is as it was
  pub next_same : (xs ys : List A) (i : ℕ) (d : A) → i < length xs → i < length ys → drop i xs ≡ drop i ys
      → get_or xs i d ≡ get_or ys i d
  next_same [] ys i d lt lt' e = absurd (omega (arith, lt))
  next_same (x ∷ xs) [] i d lt lt' e = absurd (omega (arith, lt'))
  next_same (x ∷ xs) (y ∷ ys) zero d lt lt' e = cc (e)
  next_same (x ∷ xs) (y ∷ ys) (suc i) d lt lt' e = next_same xs ys i d (omega (arith, lt)) (omega (arith, lt')) e

  -- what a list is after all of it was lent
  pub lent_whole : (n : ℕ) (new old : List A) → length new ≡ length old → n ≡ length old
      → take n (new ++ drop (length new) old) ≡ new
  lent_whole n new old same is =
      ap (λ xs. take n (new ++ xs)) (drop_all (length new) old (omega (arith, same))) ∙ ap (λ xs. take n xs)
      (append-nil new)
      ∙ take_all n new (omega (arith, same, is))

  -- the first one and the others
  pub first_and_rest : (l rest : List A) (a : A) → 0 < length l → a ≡ get_or l 0 a → rest ≡ take 0 l ++ drop 1 l
      → l ≡ a ∷ rest
  first_and_rest [] rest a filled is same = absurd (omega (arith, filled))
  first_and_rest (x ∷ xs) rest a filled is same = cc (is, same)

  -- one that is put into an empty list, and others behind it
  pub first_then : (room pushed gathered rest : List A) (a : A) → room ≡ [] → pushed ≡ room ++ a ∷ []
      → gathered ≡ pushed ++ rest → gathered ≡ a ∷ rest
  first_then room pushed gathered rest a empty push gather =
      gather ∙ ap (λ l. l ++ rest) (push ∙ ap (λ l. l ++ a ∷ []) empty)
