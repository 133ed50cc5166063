-- Whose the items are that were done in a phase.
use Rattle.std.proofs.Common.{◌≡◌, ◌≢◌, ℕ, zero, suc, ◌<◌, Bool, cond, List, [], ◌∷◌, length, Some, refl, sym, ap, subst, ◌∙◌, arith, ⊎_elim}
use Rattle.std.specs.List.{Contains, slice_get}
use Rattle.std.proofs.lemmas.Bool.{cases_eq, eq-eqb, ne_eqb}
use Rattle.bbs_model.specs.Calls.{by_number, by_of}
use Rattle.bbs_model.specs.declared.item.Item.{Item}
use Rattle.converge_laws.proofs.Public.{inside_first, inside_rest}

-- one more item, of that caller or of another
one_of : (n : ℕ) (i : Item) (is : List Item) → by_of i ≡ n → by_number n (i ∷ is) ≡ i ∷ by_number n is
one_of n i is e = ap (λ (b : Bool). cond b (i ∷ by_number n is) (by_number n is)) (eq-eqb (by_of i) n e)

none_of : (n : ℕ) (i : Item) (is : List Item) → by_of i ≢ n → by_number n (i ∷ is) ≡ by_number n is
none_of n i is e = ap (λ (b : Bool). cond b (i ∷ by_number n is) (by_number n is)) (ne_eqb (by_of i) n e)

not_empty : (i : Item) (is : List Item) → i ∷ is ≡ [] → ⊥
not_empty i is e = absurd (omega (arith, ap length e))

-- the items of the others are none
abbrev pub NoOthers : ℕ → List Item → Type 0
NoOthers by fresh = (n : ℕ) → n ≢ by → by_number n fresh ≡ []

-- then all are of that caller
pub all_by : (by : ℕ) (fresh : List Item) → NoOthers by fresh → by_number by fresh ≡ fresh
all_by by [] none = refl
all_by by (i ∷ is) none =
    ⊎_elim
    (λ (same : by_of i ≡ by).
    let rest : NoOthers by is = λ n ne. sym (none_of n i is (λ e. ne (sym e ∙ same))) ∙ none n ne in
    one_of by i is same ∙ ap (λ (xs : List Item). i ∷ xs) (all_by by is rest))
    (λ (other : by_of i ≢ by). absurd (not_empty i (by_number (by_of i) is)
    (sym (one_of (by_of i) i is refl) ∙ none (by_of i) other)))
    (cases_eq (by_of i) by)

-- where those of that caller are none either, there is none
pub none_at_all : (by : ℕ) (fresh : List Item) → NoOthers by fresh → by_number by fresh ≡ [] → fresh ≡ []
none_at_all by fresh none own = sym (all_by by fresh none) ∙ own

-- what stands at a place
pub at_there : {X : Type 0} (xs : List X) (k : ℕ) → k < length xs → (x : X) × (slice_get xs k ≡ Some x)
at_there [] k lt = absurd (omega arith)
at_there (x ∷ xs) zero lt = (x, refl)
at_there (x ∷ xs) (suc k) lt = at_there xs k (omega arith)

pub inside_at : {X : Type 0} (xs : List X) (k : ℕ) (x : X) → slice_get xs k ≡ Some x → Contains xs x
inside_at [] k x e = absurd cc
inside_at (y ∷ ys) zero x e = let same : y ≡ x = cc in subst (Contains (y ∷ ys)) same (inside_first y ys)
inside_at (y ∷ ys) (suc k) x e = inside_rest x y ys (inside_at ys k x e)

pub place_of : {X : Type 0} (xs : List X) (x : X) → Contains xs x
    → (k : ℕ) × (k < length xs) × (slice_get xs k ≡ Some x)
place_of [] x inside = absurd (omega (arith, inside.1))
place_of (y ∷ ys) x (zero, lt, at) = (0, omega arith, ap (λ z. Some z) at)
place_of (y ∷ ys) x (suc k, lt, at) = let r = place_of ys x (k, omega arith, at) in (suc r.0, omega (arith, r.1), r.2)
