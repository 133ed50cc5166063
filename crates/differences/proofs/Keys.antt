-- The tests of names and places tell them apart.
use Rattle.std.proofs.Common.{◌≡◌, ◌≢◌, ℕ, ◌&&◌, Bool, true, false, nat_eq, refl, ap, sym, ◌∙◌}
use Rattle.std.proofs.lemmas.Bool.{eqb-true}
use Rattle.std.specs.Cmp.{IsEquivalence}
use Rattle.std.proofs.lemmas.Cmp.{nat_eq_equiv, nat_list_eq_equiv}
use Rattle.std.specs.Cmp.Lexicographic.{pointwise, same_text}
use Rattle.diego_names.specs.declared.key.Key.{Key}
use Rattle.lrp_records.specs.Presence.{rank_of}
use Rattle.lrp_records.specs.declared.presence.Presence.{Presence}
use Rattle.lrp_records.specs.declared.presence.Presence.TheVariants.{Ordinary, Evacuating, Suspect}
use Rattle.differences.specs.Noted.{is_place}

-- the test of keys passes on equal keys alone
pub record TellsApart {K : Type 0} (same : K → K → Bool) : Type 0 where
  pub exact : (a b : K) → same a b ≡ true → a ≡ b
  pub itself : (a : K) → same a a ≡ true

both_of : (a b : Bool) → (a && b) ≡ true → (a ≡ true) × (b ≡ true)
both_of true b e = (refl, e)
both_of false b e = absurd cc

rank-exact : (a b : Presence) → nat_eq (rank_of a) (rank_of b) ≡ true → a ≡ b
rank-exact Ordinary Ordinary e = refl
rank-exact Evacuating Evacuating e = refl
rank-exact Suspect Suspect e = refl
rank-exact a b e = absurd cc

pub TellsApart-names : TellsApart (pointwise nat_eq)
TellsApart-names = record {
  exact = λ a b e. same_text a b (sym e);
  itself = nat_list_eq_equiv.refl;
}

place-exact : (a b : Key × Presence) → is_place a b ≡ true → a ≡ b
place-exact a b e =
    let parts = both_of (pointwise nat_eq a.0.process b.0.process && nat_eq a.0.index b.0.index)
    (nat_eq (rank_of a.1) (rank_of b.1)) e in
    let key = both_of (pointwise nat_eq a.0.process b.0.process) (nat_eq a.0.index b.0.index) parts.0 in
    let process = TellsApart-names.exact a.0.process b.0.process key.0 in
    let index = eqb-true a.0.index b.0.index key.1 in
    let presence = rank-exact a.1 b.1 parts.1 in
    λ i. (record { process = process i; index = index i }, presence i)

nat-itself : (n : ℕ) → nat_eq n n ≡ true
nat-itself n = nat_eq_equiv.refl n

place-itself : (a : Key × Presence) → is_place a a ≡ true
place-itself a =
    (λ i. (TellsApart-names.itself a.0.process i && nat-itself a.0.index i) && nat-itself (rank_of a.1) i)

pub TellsApart-places : TellsApart is_place
TellsApart-places = record { exact = place-exact; itself = place-itself }

module _ {K : Type 0} {same : K → K → Bool} (t : TellsApart same) where
  -- keys that the test tells apart differ
  pub differ : (a b : K) → same a b ≡ false → a ≢ b
  differ a b e is = let there : same a b ≡ true = ap (same a) (sym is) ∙ t.itself a in absurd cc

  -- keys that differ are told apart
  pub apart : (a b : K) → a ≢ b → same a b ≡ false
  apart a b other =
      elim (same a b) as (λ (r : Bool). same a b ≡ r → r ≡ false) [
        | true ↦ λ e. absurd (other (t.exact a b e))
        | false ↦ λ e. refl
      ] refl

  turned : (a b : K) → same a b ≡ same b a
  turned a b =
      elim (same a b) as (λ (r : Bool). same a b ≡ r → r ≡ same b a) [
        | true ↦ λ e. sym (ap (λ c. same c a) (sym (t.exact a b e)) ∙ t.itself a)
        | false ↦ λ e. sym (apart b a (λ is. differ a b e (sym is)))
      ] refl

  -- the test is an equivalence
  pub IsEquivalence-same : IsEquivalence same
  IsEquivalence-same = record { refl = t.itself; symm = turned; congr = λ a b c e. ap (λ d. same d c) (t.exact a b e) }
