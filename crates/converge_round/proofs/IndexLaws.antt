-- An index of names, name by name.
use Rattle.std.proofs.Common.{◌≡◌, ℕ, ◌+◌, ◌<◌, Bool, true, false, cond, List, [], ◌∷◌, ◌++◌, length, take, get_or, Option, Some, None, refl, sym, ap, subst, ◌∙◌, arith, length-append, ⊎_elim}
use Rattle.std.specs.Prelude.{slice_get}
use Rattle.std.specs.Cmp.{tied_itself}
use Rattle.std.specs.List.{Contains}
use Rattle.std.specs.declared.cmp.Ordering.{Ordering}
use Rattle.std.specs.declared.cmp.Ordering.TheVariants.{Less, Equal, Greater}
use Rattle.std.specs.Ordering.{is_eq}
use Rattle.std.proofs.lemmas.List.{get_or_append_left, get_or-map, length-map, length-take-le, take_more}
use Rattle.std.proofs.Math.Seq.{get_or-append_seam}
use Rattle.std.proofs.lemmas.List.Elements.{Contains-push_cases}
use Rattle.std.proofs.lemmas.Option.{slice_get-get_or, slice_get_within, get_or_from_slice_get}
use Rattle.diego_names.specs.Order.{name_order}
use Rattle.diego_names.proofs.Public.{IsKeyOrder-name_order}
use Rattle.cell_rep.specs.declared.rep.CellRep.{CellRep}
use Rattle.converge_round.specs.Reps.{names_of, IsPlaceOf}

equal-from : (o : Ordering) → is_eq o ≡ true → o ≡ Equal
equal-from Less e = absurd cc
equal-from Equal e = refl
equal-from Greater e = absurd cc

no_more : (cell : List ℕ) → Contains [] cell → ⊥
no_more cell here = omega (arith, here.1)

-- a place among some names is one among more
place-more : (names : List (List ℕ)) (key cell : List ℕ) (at : ℕ) → slice_get names at ≡ Some cell
    → slice_get (names ++ key ∷ []) at ≡ Some cell
place-more names key cell at e =
    let within : at < length names = slice_get_within names at cell e in
    let more : at < length (names ++ key ∷ []) = omega (arith, within, length-append names (key ∷ [])) in
    slice_get-get_or (names ++ key ∷ []) at cell more
    ∙ ap (λ n. Some n) (get_or_append_left names (key ∷ []) cell at within ∙ get_or_from_slice_get names at cell cell e)

-- the last place of some names
place-last : (names : List (List ℕ)) (key : List ℕ) → slice_get (names ++ key ∷ []) (length names) ≡ Some key
place-last names key =
    slice_get-get_or (names ++ key ∷ []) (length names) key (omega (arith, length-append names (key ∷ [])))
    ∙ ap (λ n. Some n) (get_or-append_seam names key [] key)

kept-place : (names : List (List ℕ)) (key cell : List ℕ) (old : Option ℕ) → is_eq (name_order key cell) ≡ false
    → IsPlaceOf names cell old → IsPlaceOf (names ++ key ∷ []) cell old
kept-place names key cell None other h = λ here. ⊎_elim
    (λ a. h a)
    (λ same.
    let tie : is_eq (name_order key cell) ≡ true = ap is_eq
    (subst (λ c. name_order key c ≡ Equal) same (tied_itself IsKeyOrder-name_order.total key)) in
    let bad : true ≡ false = sym tie ∙ other in absurd cc)
    (Contains-push_cases names key cell here)
kept-place names key cell (Some at) other h = place-more names key cell at h

new-place : (names : List (List ℕ)) (key cell : List ℕ) (b : Bool) (old : Option ℕ) → is_eq (name_order key cell) ≡ b
    → IsPlaceOf names cell old
    → IsPlaceOf (names ++ key ∷ []) cell (cond b (Some (length names)) old)
new-place names key cell true old e h =
    place-last names key ∙ ap (λ n. Some n) (IsKeyOrder-name_order.exact key cell (equal-from (name_order key cell) e))
new-place names key cell false old e h = kept-place names key cell old e h

-- one name more
pub placed-more : (names more : List (List ℕ)) (key cell : List ℕ) (at : ℕ) (old new : Option ℕ)
    → more ≡ names ++ key ∷ [] → at ≡ length names
    → new ≡ cond (is_eq (name_order key cell)) (Some at) old → IsPlaceOf names cell old → IsPlaceOf more cell new
placed-more names more key cell at old new longer last is h =
    let one : new ≡ cond (is_eq (name_order key cell)) (Some (length names)) old =
    is ∙ ap (λ n. cond (is_eq (name_order key cell)) (Some n) old) last in
    subst (λ ns. IsPlaceOf ns cell new) (sym longer)
    (subst (λ o. IsPlaceOf (names ++ key ∷ []) cell o) (sym one)
    (new-place names key cell (is_eq (name_order key cell)) old refl h))

pub names-more : (reps : List CellRep) (at : ℕ) (rep : CellRep) (key : List ℕ) → at < length reps
    → rep ≡ get_or reps at rep → key ≡ rep.cell
    → take (at + 1) (names_of reps) ≡ take at (names_of reps) ++ key ∷ []
names-more reps at rep key within is same =
    let inside : at < length (names_of reps) = omega (arith, within, length-map reps (λ (r : CellRep). r.cell)) in
    take_more (names_of reps) at key inside
    ∙ ap (λ n. take at (names_of reps) ++ n ∷ []) (get_or-map (λ (r : CellRep). r.cell) reps at rep key within ∙ ap
    (λ (r : CellRep). r.cell) (sym is) ∙ sym same)

pub names-before : (reps : List CellRep) (at : ℕ) → at < length reps → at ≡ length (take at (names_of reps))
names-before reps at within = sym (length-take-le at (names_of reps)
    (omega (arith, within, length-map reps (λ (r : CellRep). r.cell))))

pub none-placed : (cell : List ℕ) → IsPlaceOf [] cell None
none-placed cell = no_more cell
