-- Rows that are written by their numbers, one behind the other.
use Rattle.std.proofs.Common.{◌≡◌, ℕ, zero, suc, ◌+◌, ◌<◌, false, List, [], ◌∷◌, ◌++◌, length, take, drop, get_or, slice_get, Some, refl, sym, ap, ◌∙◌, arith, append_assoc, append-nil}
use Rattle.std.specs.declared.cmp.Ordering.{Ordering}
use Rattle.std.specs.List.{flat_map}
use Rattle.std.specs.Option.{unwrap_or}
use Rattle.std.specs.Ordering.{is_lt}
use Rattle.std.proofs.lemmas.Grind.{flat_map-append}
use Rattle.std.proofs.lemmas.List.{length-map, take_more}
use Rattle.std.proofs.lemmas.Option.{slice_get-get_or}
use Rattle.bbs_index.specs.Shelf.{AreNumbered}

there_on : {X : Type 0} (numbered : List X) (order : List ℕ) (rows : List X) (i : ℕ) → AreNumbered numbered order rows
    → i < length order
    → (x : X) × (slice_get numbered (get_or order i 0) ≡ Some x) × (take (suc i) rows ≡ take i rows ++ x ∷ [])
there_on numbered [] rows i are lt = absurd (omega (arith, lt))
there_on numbered (m ∷ ms) [] i are lt = absurd (cc (are))
there_on numbered (m ∷ ms) (x ∷ xs) zero are lt = (x, cc (are), refl)
there_on {X} numbered (m ∷ ms) (x ∷ xs) (suc i) are lt =
    let rest = there_on numbered ms xs i (ap (drop 1) are) (omega (arith, lt)) in
    (rest.0, rest.1, ap (λ (ys : List X). x ∷ ys) rest.2)

-- the row of the next number is the next row
pub numbered_there : {X : Type 0} (numbered : List X) (order : List ℕ) (rows : List X) (i : ℕ)
    → AreNumbered numbered order rows → i < length order
    → (x : X) × (slice_get numbered (get_or order i 0) ≡ Some x) × (take (i + 1) rows ≡ take i rows ++ x ∷ [])
numbered_there numbered order rows i are lt =
    let on = there_on numbered order rows i are lt in
    let next : i + 1 ≡ suc i = omega arith in
    (on.0, on.1, ap (λ n. take n rows) next ∙ on.2)

pub numbered_length : {X : Type 0} (numbered : List X) (order : List ℕ) (rows : List X)
    → AreNumbered numbered order rows → length order ≡ length rows
numbered_length {X} numbered order rows are = sym (length-map order (slice_get numbered)) ∙ ap length are ∙ length-map
    rows (λ (x : X). Some x)

-- one text more behind the others
pub bytes_more : {X : Type 0} (f : X → List ℕ) (rows : List X) (before was now : List ℕ) (i : ℕ) (x : X)
    → was ≡ before ++ flat_map f (take i rows) → now ≡ was ++ f x
    → take (i + 1) rows ≡ take i rows ++ x ∷ [] → now ≡ before ++ flat_map f (take (i + 1) rows)
bytes_more {X} f rows before was now i x so more one =
    more ∙ ap (λ (l : List ℕ). l ++ f x) so ∙ append_assoc before (flat_map f (take i rows)) (f x)
    ∙ ap (λ (l : List ℕ). before ++ l)
    (ap (λ (l : List ℕ). flat_map f (take i rows) ++ l) (sym (append-nil (f x))) ∙ sym
    (flat_map-append f (take i rows) (x ∷ [])) ∙ ap (flat_map f) (sym one))

-- what a number finds is what stands there
pub get_there : {X : Type 0} (xs : List X) (n : ℕ) (x d : X) → n < length xs → slice_get xs n ≡ Some x
    → get_or xs n d ≡ x
get_there xs n x d lt at = ap (λ s. unwrap_or s d) (sym (slice_get-get_or xs n d lt) ∙ at)

-- one row more, by its number
pub take_there : {X : Type 0} (xs : List X) (n : ℕ) (x : X) → n < length xs → slice_get xs n ≡ Some x
    → take (n + 1) xs ≡ take n xs ++ x ∷ []
take_there xs n x lt at = take_more xs n x lt ∙ ap (λ y. take n xs ++ y ∷ []) (get_there xs n x x lt at)

-- the row of this number does not stand before the one of the number below it
abbrev pub StandsBehind : {K X : Type 0} → (K → K → Ordering) → (X → K) → List X → ℕ → Type 0
StandsBehind {K} {X} R key rows number = (below : ℕ) (x : X) → below + 1 ≡ number
    → is_lt (R (key (get_or rows number x)) (key (get_or rows below x))) ≡ false

-- the six texts of a head, each put behind the one before it
pub texts_joined : (c d a t r m : List ℕ) → (((((([] ++ c) ++ d) ++ a) ++ t) ++ r) ++ m) ≡ c
    ++ (d ++ (a ++ (t ++ (r ++ m))))
texts_joined c d a t r m =
    append_assoc (((c ++ d) ++ a) ++ t) r m ∙ append_assoc ((c ++ d) ++ a) t (r ++ m) ∙ append_assoc (c ++ d) a
    (t ++ (r ++ m))
    ∙ append_assoc c d (a ++ (t ++ (r ++ m)))
