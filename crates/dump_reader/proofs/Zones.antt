-- Names that are inserted one after another are those that were inserted.
use Rattle.std.proofs.Common.{◌≡◌, ◌∙◌, ℕ, Bool, true, false, ◌||◌, if◌then◌else◌, List, [], ◌∷◌, ◌++◌, refl, sym, ap, subst}
use Rattle.std.specs.List.{list_any}
use Rattle.std.specs.Cmp.Lexicographic.{bytes_decides}
use Rattle.std.proofs.lemmas.List.Folds.{list_any-append}
use Rattle.indexmap.specs.IndexSet.{insert_all, insert_key}
use Rattle.dump_reader.specs.Lines.{is_same_name}

or-false : (b : Bool) → (b || false) ≡ b
or-false true = refl
or-false false = refl

or-assoc : (a b c : Bool) → ((a || b) || c) ≡ (a || (b || c))
or-assoc true b c = refl
or-assoc false b c = refl

one-more : (z x : List ℕ) (ks : List (List ℕ)) (b s : Bool) → list_any (is_same_name x) ks ≡ b → is_same_name z x ≡ s
    → list_any (is_same_name z) (if b then ks else ks ++ x ∷ []) ≡ (list_any (is_same_name z) ks || s)
one-more z x ks true false known isnt = sym (or-false (list_any (is_same_name z) ks))
one-more z x ks true true known is =
    let eq : z ≡ x = (bytes_decides z x).0 is in
    let here : list_any (is_same_name z) ks ≡ true = subst (λ y. list_any (is_same_name y) ks ≡ true) (sym eq) known in
    here ∙ sym (ap (λ b. b || true) here)
one-more z x ks false s known is =
    list_any-append (is_same_name z) ks (x ∷ []) ∙ ap (λ b. list_any (is_same_name z) ks || b)
    (or-false (is_same_name z x) ∙ is)

onto : (z : List ℕ) (xs ks : List (List ℕ)) → list_any (is_same_name z) (insert_all is_same_name ks xs)
    ≡ (list_any (is_same_name z) ks || list_any (is_same_name z) xs)
onto z [] ks = sym (or-false (list_any (is_same_name z) ks))
onto z (x ∷ xs) ks =
    onto z xs (insert_key is_same_name ks x)
    ∙ (ap (λ b. b || list_any (is_same_name z) xs) (one-more z x ks (list_any (is_same_name x) ks)
    (is_same_name z x) refl refl)
    ∙ or-assoc (list_any (is_same_name z) ks) (is_same_name z x) (list_any (is_same_name z) xs))

-- a name is among those that were inserted as it is among the names
pub any-inserted : (z : List ℕ) (xs : List (List ℕ)) → list_any (is_same_name z) (insert_all is_same_name [] xs)
    ≡ list_any (is_same_name z) xs
any-inserted z xs = onto z xs []

-- the same, of two lists
pub any_of_two : (z : List ℕ) (xs ys seen others : List (List ℕ)) → seen ≡ insert_all is_same_name [] xs
    → others ≡ insert_all is_same_name [] ys → (list_any (is_same_name z) seen || list_any (is_same_name z) others)
    ≡ (list_any (is_same_name z) xs || list_any (is_same_name z) ys)
any_of_two z xs ys seen others first second =
    ap (λ ks. list_any (is_same_name z) ks || list_any (is_same_name z) others) first
    ∙ (ap (λ ks. list_any (is_same_name z) (insert_all is_same_name [] xs) || list_any (is_same_name z) ks) second
    ∙ (ap (λ b. b || list_any (is_same_name z) (insert_all is_same_name [] ys)) (any-inserted z xs)
    ∙ ap (λ b. list_any (is_same_name z) xs || b) (any-inserted z ys)))
