-- Tests that tell keys apart, and pairs of keys.
use Rattle.std.proofs.Common.{◌≡◌, ◌≢◌, ◌⊎◌, ◌&&◌, Bool, true, false, inl, inr, refl, ap, sym, ◌∙◌}
use Rattle.std.proofs.lemmas.Bool.{eqb-true}
use Rattle.std.proofs.lemmas.Cmp.{nat_eq_equiv}
use Rattle.std.specs.Prelude.{nat_eq}

-- the test passes on equal keys alone
pub record TellsApart {K : Type 0} (same : K → K → Bool) : Type 0 where
  pub exact : (a b : K) → same a b ≡ true → a ≡ b
  pub itself : (a : K) → same a a ≡ true

pub TellsApart-numbers : TellsApart nat_eq
TellsApart-numbers = record { exact = eqb-true; itself = nat_eq_equiv.refl }

module _ {K : Type 0} {same : K → K → Bool} (t : TellsApart same) where
  -- keys are equal or not
  pub decide : (a b : K) → (a ≡ b) ⊎ (a ≢ b)
  decide a b =
      elim (same a b) as (λ (r : Bool). same a b ≡ r → (a ≡ b) ⊎ (a ≢ b)) [
        | true ↦ λ e. inl (t.exact a b e)
        | false ↦ λ e. inr (λ is. let there : same a b ≡ true = ap (same a) (sym is) ∙ t.itself a in absurd cc)
      ] refl

  -- keys that differ are told apart
  pub apart : (a b : K) → a ≢ b → same a b ≡ false
  apart a b other =
      elim (same a b) as (λ (r : Bool). same a b ≡ r → r ≡ false) [
        | true ↦ λ e. absurd (other (t.exact a b e))
        | false ↦ λ e. refl
      ] refl

both_of : (a b : Bool) → (a && b) ≡ true → (a ≡ true) × (b ≡ true)
both_of true b e = (refl, e)
both_of false b e = absurd cc

module _ {C A : Type 0} {eq : C → C → Bool} {same : A → A → Bool} (t : TellsApart eq) (u : TellsApart same) where
  -- so are pairs of them
  pub TellsApart-pairs : TellsApart (λ (a b : C × A). eq a.0 b.0 && same a.1 b.1)
  TellsApart-pairs = record {
    exact = λ a b e. let parts = both_of (eq a.0 b.0) (same a.1 b.1) e in
        λ i. (t.exact a.0 b.0 parts.0 i, u.exact a.1 b.1 parts.1 i);
    itself = λ a. λ i. t.itself a.0 i && u.itself a.1 i;
  }

-- keys that are told apart differ
pub differ : {K : Type 0} {same : K → K → Bool} (t : TellsApart same) (a b : K) → same a b ≡ false → a ≢ b
differ {same = same} t a b e is = let there : same a b ≡ true = ap (same a) (sym is) ∙ t.itself a in absurd cc
