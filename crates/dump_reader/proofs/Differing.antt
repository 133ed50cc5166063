-- What is added where it isn't yet differs from all that is there.
use Rattle.std.proofs.Common.{◌≡◌, ◌≢◌, ◌∙◌, ℕ, zero, suc, ◌<◌, ◌≤◌, Bool, true, false, ◌||◌, ◌&&◌, nat_eq, nat_le, nat_lt, ◌+◌, List, [], ◌∷◌, ◌++◌, length, get_or, map, refl, sym, ap, subst, arith, length-append, append_assoc, append-nil}
use Rattle.std.specs.Cmp.Lexicographic.{pointwise}
use Rattle.std.specs.List.{All, AllPairs, Contains, list_all, list_any}
use Rattle.std.proofs.lemmas.Cmp.{nat_list_eq_equiv}
use Rattle.std.proofs.lemmas.Bool.{leb-false, ltb-false}
use Rattle.std.proofs.lemmas.List.{map-append}
use Rattle.std.proofs.lemmas.List.Quantifiers.{all_pairs_push}
use Rattle.diego_names.specs.declared.key.Key.{Key}
use Rattle.dump_reader.specs.Facts.{AllDiffer}
use Rattle.dump_reader.specs.Lines.{is_same_instance, is_same_name, repeats}

-- where one of two tests is false
pub first_false : (a b : Bool) → (a || b) ≡ false → a ≡ false
first_false true b h = h
first_false false b h = refl

pub second_false : (a b : Bool) → (a || b) ≡ false → b ≡ false
second_false true b h = cc
second_false false b h = h

-- where no item passes, each fails
pub none_pass : {X : Type 0} (p : X → Bool) (xs : List X) → list_any p xs ≡ false → All (λ x. p x ≡ false) xs
none_pass p [] none k d h = absurd (omega arith)
none_pass p (x ∷ xs) none zero d h = first_false (p x) (list_any p xs) none
none_pass p (x ∷ xs) none (suc k) d h = none_pass p xs (second_false (p x) (list_any p xs) none) k d (omega arith)

-- an instance is itself, and so is a name
pub same-name : (name : List ℕ) → is_same_name name name ≡ true
same-name name = nat_list_eq_equiv.refl name

same-number : (n : ℕ) → nat_eq n n ≡ true
same-number n = grind arith

pub same-instance : (key : Key) → is_same_instance key key ≡ true
same-instance key = ap (λ b. b && nat_eq key.index key.index)
    (nat_list_eq_equiv.refl key.process) ∙ same-number key.index

module _ {Y : Type 0} (same : Y → Y → Bool) (itself : (y : Y) → same y y ≡ true) where
  differs : (a b : Y) → same b a ≡ false → a ≢ b
  differs a b isnt is = let found : same b a ≡ true = subst (λ y. same b y ≡ true) (sym is) (itself b) in cc

  -- one item more differs from those before it
  pub differ-push : (ys : List Y) (y : Y) → list_any (same y) ys ≡ false → AllDiffer ys → AllDiffer (ys ++ y ∷ [])
  differ-push ys y isnt differ =
      all_pairs_push (λ a b. a ≢ b) ys y differ (λ k d h. differs (get_or ys k d) y (none_pass (same y) ys isnt k d h))

  -- likewise with what an item names
  pub differ-named : {X : Type 0} (f : X → Y) (xs : List X) (x : X) → list_any (same (f x)) (map f xs) ≡ false
      → AllDiffer (map f xs) → AllDiffer (map f (xs ++ x ∷ []))
  differ-named f xs x isnt differ =
      subst AllDiffer (sym (map-append f xs (x ∷ []))) (differ-push (map f xs) (f x) isnt differ)

  -- where none repeats one before it, all differ
  pub differ-all : (before xs : List Y) → repeats same before xs ≡ false → AllDiffer before → AllDiffer (before ++ xs)
  differ-all before [] none differ = subst AllDiffer (sym (append-nil before)) differ
  differ-all before (x ∷ xs) none differ =
      let rest = differ-all (before ++ x ∷ []) xs (second_false (list_any (same x) before)
      (repeats same (before ++ x ∷ []) xs) none)
      (differ-push before x (first_false (list_any (same x) before) (repeats same (before ++ x ∷ []) xs) none) differ)
      in
      subst AllDiffer (append_assoc before (x ∷ []) xs) rest

-- no items differ
pub differ-none : {Y : Type 0} → AllDiffer {X = Y} []
differ-none i j d low high = absurd (omega arith)

-- a limit that isn't reached
pub below-limit : (n m : ℕ) → nat_le n m ≡ false → m < n
below-limit n m h = leb-false n m h

pub within-limit : (n m : ℕ) → nat_lt n m ≡ false → m ≤ n
within-limit n m h = ltb-false n m h

-- one item more is within a limit that isn't reached
pub few-push : {X : Type 0} (n : ℕ) (xs : List X) (x : X) → nat_le n (length xs) ≡ false → length (xs ++ x ∷ []) ≤ n
few-push n xs x h =
    let less = below-limit n (length xs) h in
    let longer = length-append xs (x ∷ []) in
    omega arith
