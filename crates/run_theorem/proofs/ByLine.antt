-- Answers by line: those that are kept of them stay in their order.
use Rattle.std.proofs.Common.{◌≡◌, ◌⊎◌, ℕ, ◌<◌, ◌≤◌, Bool, true, false, cond, List, [], ◌∷◌, refl, sym, ap, subst, ◌∙◌, arith, ⊎_elim}
use Rattle.std.specs.Prelude.{filter}
use Rattle.scenario_lines.specs.declared.answered.Answered.{Answered}
use Rattle.phase_text.specs.Sorting.{is_earlier_line, sorted_by, with_placed}

-- the lines of answers don't fall, from one on
abbrev pub Rises : ℕ → List Answered → Type 0
Rises low [] = Unit {0}
Rises low (a ∷ as') = (low ≤ a.line) × Rises a.line as'

pub rises_from : (low mid : ℕ) (as' : List Answered) → low ≤ mid → Rises mid as' → Rises low as'
rises_from low mid [] le f = tt
rises_from low mid (a ∷ as') le f = (omega (arith, le, f.0), f.1)

-- which of two lines is the earlier
earlier_cases : (a b : Answered) → ((is_earlier_line a b ≡ true) × (a.line < b.line))
    ⊎ ((is_earlier_line a b ≡ false) × (b.line ≤ a.line))
earlier_cases a b = grind arith

placed_behind : (x y : Answered) (ys : List Answered) → is_earlier_line y x ≡ true
    → with_placed is_earlier_line x (y ∷ ys) ≡ y ∷ with_placed is_earlier_line x ys
placed_behind x y ys is = ap (λ (b : Bool). cond b (y ∷ with_placed is_earlier_line x ys) (x ∷ y ∷ ys)) is

placed_here : (x y : Answered) (ys : List Answered) → is_earlier_line y x ≡ false
    → with_placed is_earlier_line x (y ∷ ys) ≡ x ∷ y ∷ ys
placed_here x y ys is = ap (λ (b : Bool). cond b (y ∷ with_placed is_earlier_line x ys) (x ∷ y ∷ ys)) is

-- one that isn't behind any comes first
placed_first : (x : Answered) (low : ℕ) (ys : List Answered) → x.line ≤ low → Rises low ys
    → with_placed is_earlier_line x ys ≡ x ∷ ys
placed_first x low [] le f = refl
placed_first x low (y ∷ ys) le f =
    ⊎_elim
    (λ (h : (is_earlier_line y x ≡ true) × (y.line < x.line)). absurd (omega (arith, h.1, le, f.0)))
    (λ (h : (is_earlier_line y x ≡ false) × (x.line ≤ y.line)). placed_here x y ys h.0)
    (earlier_cases y x)

rises_placed : (x : Answered) (low : ℕ) (ys : List Answered) → low ≤ x.line → Rises low ys
    → Rises low (with_placed is_earlier_line x ys)
rises_placed x low [] le f = (le, tt)
rises_placed x low (y ∷ ys) le f =
    ⊎_elim
    (λ (h : (is_earlier_line y x ≡ true) × (y.line < x.line)).
    subst (Rises low) (sym (placed_behind x y ys h.0)) (f.0, rises_placed x y.line ys (omega (arith, h.1)) f.1))
    (λ (h : (is_earlier_line y x ≡ false) × (x.line ≤ y.line)).
    subst (Rises low) (sym (placed_here x y ys h.0)) (le, (h.1, f.1)))
    (earlier_cases y x)

pub rises_sorted : (xs : List Answered) → Rises 0 (sorted_by is_earlier_line xs)
rises_sorted [] = tt
rises_sorted (x ∷ xs) = rises_placed x 0 (sorted_by is_earlier_line xs) (omega arith) (rises_sorted xs)

-- answers whose lines don't fall stand by line
pub sorted_same : (low : ℕ) (as' : List Answered) → Rises low as' → sorted_by is_earlier_line as' ≡ as'
sorted_same low [] f = refl
sorted_same low (a ∷ as') f =
    ap (with_placed is_earlier_line a) (sorted_same a.line as' f.1) ∙ placed_first a a.line as' (omega arith) f.1

module _ (P : Answered → Bool) where
  rises_kept : (low : ℕ) (as' : List Answered) → Rises low as' → Rises low (filter P as')
  rises_kept low [] f = tt
  rises_kept low (a ∷ as') f =
      elim (P a) as (λ b. Rises low (cond b (a ∷ filter P as') (filter P as'))) [
        | true ↦ (f.0, rises_kept a.line as' f.1)
        | false ↦ rises_from low a.line (filter P as') f.0 (rises_kept a.line as' f.1)
      ]

  kept : (x : Answered) (xs : List Answered) → P x ≡ true → filter P (x ∷ xs) ≡ x ∷ filter P xs
  kept x xs is = ap (λ (b : Bool). cond b (x ∷ filter P xs) (filter P xs)) is

  left_out : (x : Answered) (xs : List Answered) → P x ≡ false → filter P (x ∷ xs) ≡ filter P xs
  left_out x xs is = ap (λ (b : Bool). cond b (x ∷ filter P xs) (filter P xs)) is

  -- one that isn't kept may stand anywhere
  placed_out : (x : Answered) (ys : List Answered) → P x ≡ false
      → filter P (with_placed is_earlier_line x ys) ≡ filter P ys
  placed_out x [] is = left_out x [] is
  placed_out x (y ∷ ys) is =
      ⊎_elim
      (λ (h : (is_earlier_line y x ≡ true) × (y.line < x.line)).
      ap (filter P) (placed_behind x y ys h.0) ∙ ap (λ (l : List Answered). cond (P y) (y ∷ l) l) (placed_out x ys is))
      (λ (h : (is_earlier_line y x ≡ false) × (x.line ≤ y.line)).
      ap (filter P) (placed_here x y ys h.0) ∙ left_out x (y ∷ ys) is)
      (earlier_cases y x)

  -- one that is kept stands among those that are as it does among all
  placed_in : (x : Answered) (low : ℕ) (ys : List Answered) → P x ≡ true → Rises low ys
      → filter P (with_placed is_earlier_line x ys) ≡ with_placed is_earlier_line x (filter P ys)
  placed_in x low [] is f = kept x [] is
  placed_in x low (y ∷ ys) is f =
      ⊎_elim
      (λ (h : (is_earlier_line y x ≡ true) × (y.line < x.line)).
      ap (filter P) (placed_behind x y ys h.0)
      ∙ elim (P y) as (λ b. cond b (y ∷ filter P (with_placed is_earlier_line x ys))
      (filter P (with_placed is_earlier_line x ys))
      ≡ with_placed is_earlier_line x (cond b (y ∷ filter P ys) (filter P ys))) [
        | true ↦ ap (λ (l : List Answered). y ∷ l) (placed_in x y.line ys is f.1) ∙ sym
            (placed_behind x y (filter P ys) h.0)
        | false ↦ placed_in x y.line ys is f.1
      ])
      (λ (h : (is_earlier_line y x ≡ false) × (x.line ≤ y.line)).
      ap (filter P) (placed_here x y ys h.0) ∙ kept x (y ∷ ys) is
      ∙ sym (placed_first x x.line (filter P (y ∷ ys)) (omega arith) (rises_kept x.line (y ∷ ys) (h.1, f.1))))
      (earlier_cases y x)

  -- those that are kept of answers by line are those that are kept, by line
  kept_more : (x : Answered) (xs : List Answered) (b : Bool) → P x ≡ b
      → filter P (sorted_by is_earlier_line xs) ≡ sorted_by is_earlier_line (filter P xs)
      → filter P (with_placed is_earlier_line x (sorted_by is_earlier_line xs))
      ≡ sorted_by is_earlier_line (filter P (x ∷ xs))
  kept_more x xs true is more =
      placed_in x 0 (sorted_by is_earlier_line xs) is (rises_sorted xs) ∙ ap (with_placed is_earlier_line x) more
      ∙ ap (sorted_by is_earlier_line) (sym (kept x xs is))
  kept_more x xs false is more =
      placed_out x (sorted_by is_earlier_line xs) is ∙ more ∙ ap (sorted_by is_earlier_line) (sym (left_out x xs is))

  pub kept_sorted : (xs : List Answered) → filter P (sorted_by is_earlier_line xs)
      ≡ sorted_by is_earlier_line (filter P xs)
  kept_sorted [] = refl
  kept_sorted (x ∷ xs) = kept_more x xs (P x) refl (kept_sorted xs)
