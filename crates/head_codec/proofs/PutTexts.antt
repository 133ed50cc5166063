-- Texts put one behind the other.
use Rattle.std.proofs.Common.{◌≡◌, ℕ, ◌+◌, ◌<◌, List, [], ◌∷◌, ◌++◌, length, take, drop, get_or, sym, ap, subst, ◌∙◌, arith, drop_at, append-nil, append_assoc, length-append}
use Rattle.std.specs.List.{flat_map}
use Rattle.std.proofs.lemmas.List.{take-append-drop, take_more}
use Rattle.std.proofs.lemmas.Grind.{flat_map-append}
use Rattle.wire_fields.specs.Field.{written, PutsText}
use Rattle.wire_fields.proofs.Public.{Puts-then}

-- nothing was put
pub Puts-nothing : (out : List ℕ) (at : ℕ) → PutsText out at [] out at
unfolding written
Puts-nothing out at =
    let here : at + 0 ≡ at = omega arith in
    record {
      bytes = sym (ap (λ (n : ℕ). take at out ++ drop n out) here ∙ take-append-drop at out);
      place = sym here;
    }

-- a text behind one that was put in front
pub Puts-more : {old mid new : List ℕ} {middle after : ℕ} {a b text : List ℕ} → PutsText old 0 a mid middle
    → PutsText mid middle b new after → b ≡ text
    → PutsText old 0 (a ++ text) new after
Puts-more {old} {mid} {new} {middle} {after} {a} {b} {text} first second is =
    Puts-then (omega arith) first (subst (λ (t : List ℕ). PutsText mid middle t new after) is second)

-- what stands behind a text that was put in front
pub Puts-behind : {old text new : List ℕ} {after : ℕ} → PutsText old 0 text new after → drop after new ≡ drop after old
unfolding written
Puts-behind {old} {text} {new} {after} puts =
    ap (drop after) puts.bytes ∙ drop_at text (drop (0 + length text) old) after (omega (arith, puts.place)) ∙ ap
    (λ (n : ℕ). drop n old) (sym puts.place)

-- the text of one row more
pub flat_map-next : {X : Type 0} (f : X → List ℕ) (xs : List X) (i : ℕ) (x : X) → i < length xs
    → flat_map f (take (i + 1) xs) ≡ flat_map f (take i xs) ++ f (get_or xs i x)
flat_map-next f xs i x lt =
    ap (flat_map f) (take_more xs i x lt) ∙ flat_map-append f (take i xs) (get_or xs i x ∷ [])
    ∙ ap (λ (l : List ℕ). flat_map f (take i xs) ++ l) (append-nil (f (get_or xs i x)))

-- six texts, each put behind the one before it
pub joined : (c d a t r m : List ℕ) → (((((c ++ d) ++ a) ++ t) ++ r) ++ m) ≡ c ++ (d ++ (a ++ (t ++ (r ++ m))))
joined c d a t r m =
    append_assoc (((c ++ d) ++ a) ++ t) r m
    ∙ append_assoc ((c ++ d) ++ a) t (r ++ m)
    ∙ append_assoc (c ++ d) a (t ++ (r ++ m))
    ∙ append_assoc c d (a ++ (t ++ (r ++ m)))

-- and how long they are
pub length-joined : (c d a t r m : List ℕ) → length (c ++ (d ++ (a ++ (t ++ (r ++ m)))))
    ≡ length c + (length d + (length a + (length t + (length r + length m))))
length-joined c d a t r m =
    omega (
      arith,
      length-append c (d ++ (a ++ (t ++ (r ++ m)))),
      length-append d (a ++ (t ++ (r ++ m))),
      length-append a (t ++ (r ++ m)),
      length-append t (r ++ m),
      length-append r m,
    )
