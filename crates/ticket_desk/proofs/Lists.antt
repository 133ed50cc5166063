-- Lists read by place, how many of their elements pass a test, and the items of one number.
use Rattle.std.proofs.Common.{◌≡◌, ℕ, zero, suc, ◌+◌, ◌<◌, ◌≤◌, ◌≢◌, ◌⊎◌, Bool, true, false, cond, eqb, List, [], ◌∷◌, ◌++◌, length, get_or, set, count_by, sym, refl, ap, ◌∙◌, subst, inl, inr, ⊎_elim, append_assoc, eq-eqb, ne_eqb, zero-le, arith}
use Rattle.std.proofs.lemmas.List.{append-nil}
use Rattle.std.proofs.lemmas.List.Sums.{sum_by-set, sum_by_push, sum_by-cons}
use Rattle.std.proofs.lemmas.List.Elements.{filter-append}
use mathlib.Core.Option.{some, some-injective, some-ne-none}
use lib.ListN.{get_elem?}
use Rattle.atomic_table.proofs.Lists.{at_set}
use Rattle.ticket_desk.specs.Views.{EachAt, Begins, by_number}
use Rattle.ticket_desk.specs.Turns.{Adds}

weight_le : (b c : Bool) → (b ≡ true → c ≡ true) → cond b 1 0 ≤ cond c 1 0
weight_le false c h = zero-le
weight_le true true h = omega arith
weight_le true false h = let k : false ≡ true = h refl in cc

module _ {A : Type 0} where
  pub get_within : (l : List A) (i : ℕ) (a : A) → get_elem? l i ≡ some a → (i < length l) × (get_or l i a ≡ a)
  get_within [] i a e = absurd (some-ne-none a (sym e))
  get_within (x ∷ xs) zero a e = (omega arith, some-injective x a e)
  get_within (x ∷ xs) (suc i) a e = let r = get_within xs i a e in (omega arith, r.1)

  pub one_there : (l : List A) (i : ℕ) (a b : A) → get_elem? l i ≡ some a → get_elem? l i ≡ some b → a ≡ b
  one_there l i a b e f = some-injective a b (sym e ∙ f)

  pub at_end : (l : List A) (a b : A) (j : ℕ) → get_elem? (l ++ a ∷ []) j ≡ some b
      → (get_elem? l j ≡ some b) ⊎ ((j ≡ length l) × (a ≡ b))
  at_end [] a b zero e = inr (refl, some-injective a b e)
  at_end [] a b (suc j) e = absurd (some-ne-none b (sym e))
  at_end (x ∷ xs) a b zero e = inl e
  at_end (x ∷ xs) a b (suc j) e = ⊎_elim (λ (t : get_elem? xs j ≡ some b). inl t)
      (λ (t : (j ≡ length xs) × (a ≡ b)). inr (ap suc t.0, t.1)) (at_end xs a b j e)

  module _ (P : ℕ → A → Type 0) where
    pub each_set : (l : List A) (i : ℕ) (w : A) → P i w → ((j : ℕ) (x : A) → j ≢ i → get_elem? l j ≡ some x → P j x)
        → EachAt P (set l i w)
    each_set l i w here else j x at = ⊎_elim
        (λ (t : (j ≡ i) × (w ≡ x)). subst (λ (y : ℕ × A). P y.0 y.1) (λ k. (sym t.0 k, t.1 k)) here)
        (λ (t : (j ≢ i) × (get_elem? l j ≡ some x)). else j x t.0 t.1) (at_set l i j w x at)

    pub each_push : (l : List A) (w : A) → EachAt P l → P (length l) w → EachAt P (l ++ w ∷ [])
    each_push l w before last j x at = ⊎_elim (λ (t : get_elem? l j ≡ some x). before j x t)
        (λ (t : (j ≡ length l) × (w ≡ x)). subst (λ (y : ℕ × A). P y.0 y.1) (λ k. (sym t.0 k, t.1 k)) last)
        (at_end l w x j at)

    pub each_cons : (x : A) (l : List A) → P zero x → EachAt (λ i. P (suc i)) l → EachAt P (x ∷ l)
    each_cons x l here below zero y e = subst (P zero) (some-injective x y e) here
    each_cons x l here below (suc i) y e = below i y e

    pub each_nil : EachAt P []
    each_nil i x e = absurd (some-ne-none x (sym e))

  pub count_set : (p : A → Bool) (l : List A) (i : ℕ) (v w : A) → get_elem? l i ≡ some v
      → count_by p (set l i w) + cond (p v) 1 0 ≡ count_by p l + cond (p w) 1 0
  count_set p l i v w at = let r = get_within l i v at in
      subst (λ (x : A). count_by p (set l i w) + cond (p x) 1 0 ≡ count_by p l + cond (p w) 1 0) r.1
      (sum_by-set (λ x. cond (p x) 1 0) l i w v r.0)

  pub count_push : (p : A → Bool) (l : List A) (w : A) → count_by p (l ++ w ∷ []) ≡ count_by p l + cond (p w) 1 0
  count_push p l w = sum_by_push (λ x. cond (p x) 1 0) l w

  pub count_le : (p q : A → Bool) (l : List A) → ((i : ℕ) (v : A) → get_elem? l i ≡ some v → p v ≡ true → q v ≡ true)
      → count_by p l ≤ count_by q l
  count_le p q [] h = zero-le
  count_le p q (x ∷ xs) h =
      let a = sum_by-cons (λ (y : A). cond (p y) 1 0) x xs in let b = sum_by-cons (λ (y : A). cond (q y) 1 0) x xs in
      let r = count_le p q xs (λ i v at. h (suc i) v at) in let here = weight_le (p x) (q x) (h zero x refl) in
      omega arith

  pub begins_itself : (l : List A) → Begins l l
  begins_itself l = ([], sym (append-nil l))

  pub begins_nil : (l : List A) → Begins [] l
  begins_nil l = (l, refl)

  pub begins_on : (a b c : List A) → Begins a b → Begins b c → Begins a c
  begins_on a b c x y = (x.0 ++ y.0, y.1 ∙ ap (λ l. l ++ y.0) x.1 ∙ append_assoc a x.0 y.0)

  module _ (by : A → ℕ) where
    pub by_both : (n : ℕ) (xs ys : List A) → by_number by n (xs ++ ys) ≡ by_number by n xs ++ by_number by n ys
    by_both n xs ys = filter-append (λ x. eqb (by x) n) xs ys

    -- what a turn added: items of this number alone
    pub record Own (n : ℕ) (before after : List A) : Type 0 where
      pub more : List A
      pub grows : after ≡ before ++ more
      pub own : by_number by n more ≡ more
      pub others : (m : ℕ) → m ≢ n → by_number by m more ≡ []

    own_one : (n : ℕ) (x : A) → by x ≡ n → by_number by n (x ∷ []) ≡ x ∷ []
    own_one n x e = ap (λ b. cond b (x ∷ []) []) (eq-eqb (by x) n e)

    not_one : (n m : ℕ) (x : A) → by x ≡ n → m ≢ n → by_number by m (x ∷ []) ≡ []
    not_one n m x e ne = ap (λ b. cond b (x ∷ []) []) (ne_eqb (by x) m (λ f. ne (sym f ∙ e)))

    pub own_added : (n : ℕ) (before after : List A) → Adds by n before after → Own n before after
    own_added n before after (inl same) = record {
      more = [];
      grows = same ∙ sym (append-nil before);
      own =
          refl;
      others = λ m ne. refl;
    }
    own_added n before after (inr new) = record {
      more = new.0 ∷ [];
      grows = new.1;
      own =
          own_one n new.0 new.2;
      others = λ m ne. not_one n m new.0 new.2 ne;
    }
