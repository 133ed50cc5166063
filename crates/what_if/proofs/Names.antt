-- Tests of names, tags and keys say whether two are one.
use Rattle.std.proofs.Common.{◌≡◌, ◌≢◌, ℕ, true, false, ◌&&◌, ◌==◌, List, Option, Some, None, refl, ap, arith}
use Rattle.std.specs.Option.{option_eq}
use Rattle.std.proofs.lemmas.Bool.{and_parts, eqb-true, false_from_ne_true}
use Rattle.std.proofs.lemmas.Bool.Decides.{Decides-eqb}
use Rattle.std.proofs.lemmas.Cmp.{nat_list_eq_equiv}
use Rattle.std.proofs.lemmas.Slice.Eq.{slice_eq-Decides}
use Rattle.diego_names.specs.declared.key.Key.{Key}
use Rattle.auctioneer.specs.Stands.{same_name}
use Rattle.what_if.specs.Stays.{same_key}

pub name_from_test : (a b : List ℕ) → same_name a b ≡ true → a ≡ b
name_from_test a b e = (slice_eq-Decides Decides-eqb a b (same_name a b) refl).0 e

pub test_from_name : (a b : List ℕ) → a ≡ b → same_name a b ≡ true
test_from_name a b e = (slice_eq-Decides Decides-eqb a b (same_name a b) refl).1 e

pub other_name : (a b : List ℕ) → a ≢ b → same_name a b ≡ false
other_name a b apart = false_from_ne_true (same_name a b) (λ e. apart (name_from_test a b e))

pub names_turned : (a b : List ℕ) → same_name a b ≡ same_name b a
names_turned a b = nat_list_eq_equiv.symm a b

pub tag_from_test : (a b : Option (List ℕ)) → option_eq same_name a b ≡ true → a ≡ b
tag_from_test None None e = refl
tag_from_test None (Some y) e = cc
tag_from_test (Some x) None e = cc
tag_from_test (Some x) (Some y) e = ap Some (name_from_test x y e)

pub tags_turned : (a b : Option (List ℕ)) → option_eq same_name a b ≡ option_eq same_name b a
tags_turned None None = refl
tags_turned None (Some y) = refl
tags_turned (Some x) None = refl
tags_turned (Some x) (Some y) = names_turned x y

pub keys_turned : (a b : Key) → same_key a b ≡ same_key b a
keys_turned a b = λ i. names_turned a.process b.process i && numbers_turned a.index b.index i
  where
    numbers_turned : (n m : ℕ) → (n == m) ≡ (m == n)
    numbers_turned n m = grind arith

pub key_from_test : (a b : Key) → same_key a b ≡ true → a ≡ b
key_from_test a b e =
    let both = and_parts (same_name a.process b.process) (a.index == b.index) e in
    λ i. record {
      process = name_from_test a.process b.process both.0 i;
      index = eqb-true a.index b.index both.1 i;
    }
