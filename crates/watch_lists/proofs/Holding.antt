-- A cause that holds at a moment is noted before it, or up to it.
use Rattle.std.proofs.Common.{◌≡◌, ◌⊎◌, ℕ, ◌<◌, ◌≤◌, ◌||◌, not, Bool, true, false, List, [], ◌∷◌, Option, Some, None, inl, inr, refl, arith, suc}
use Rattle.std.specs.Prelude.{nat_le}
use Rattle.std.specs.List.{Contains, list_any}
use Rattle.std.specs.Option.{option_map_or}
use Rattle.std.proofs.lemmas.Bool.Decides.{nat_tests}
use Rattle.crash_backoff.specs.declared.moment.Moment.{Moment}
use Rattle.work_causes.specs.Causes.{Ends, holds_by, until_of}
use Rattle.work_causes.specs.declared.cause.Cause.{Cause}
use Rattle.work_causes.specs.declared.cause.Cause.TheVariants.{Always, From, Past, While, Anew}
use Rattle.watch_lists.specs.Watched.{start_of, start_while, stop_of}

-- a test that some item passes is passed by an item of the list
pub any_in : {X : Type 0} (p : X → Bool) (xs : List X) → list_any p xs ≡ true → (x : X) × Contains xs x × (p x ≡ true)
any_in p [] e = absurd cc
any_in p (x ∷ xs) e =
    elim (p x) as (λ (b : Bool). p x ≡ b → (b || list_any p xs) ≡ true
    → (y : _) × Contains (x ∷ xs) y × (p y ≡ true)) [
      | true ↦ λ is h. (x, (0, omega arith, refl), is)
      | false ↦ λ is h. let r = any_in p xs h in (r.0, (suc r.1.0, omega (arith, r.1.1), r.1.2), r.2)
    ] refl e

pub reached : (now : ℕ) (until : Option ℕ) → option_map_or (λ (second : ℕ). nat_le second now) until false ≡ true
    → (m : ℕ) × (until ≡ Some m) × (m ≤ now)
reached now None e = absurd cc
reached now (Some m) e = (m, refl, grind (arith, nat_tests))

unreached : (now : ℕ) (until : Option ℕ)
    → not (option_map_or (λ (second : ℕ). nat_le second now) until false) ≡ true
    → ((m : ℕ) × (start_while until ≡ Some m) × (m ≤ now)) ⊎ ((m : ℕ) × (until ≡ Some m) × (now < m))
unreached now None e = inl (0, refl, omega arith)
unreached now (Some m) e = inr (m, refl, grind (arith, nat_tests))

pub holds_at : (ends : Ends) (now : Moment) (c : Cause) → holds_by ends now c ≡ true
    → ((m : ℕ) × (start_of (until_of ends) c ≡ Some m) × (m ≤ now.0))
    ⊎ ((m : ℕ) × (stop_of (until_of ends) c ≡ Some m) × (now.0 < m))
holds_at ends now Always e = inl (0, refl, omega arith)
holds_at ends now (From second) e = inl (second, refl, grind (arith, nat_tests))
holds_at ends now (Past term) e = inl (reached now.0 (until_of ends term) e)
holds_at ends now (While term) e = unreached now.0 (until_of ends term) e
holds_at ends now (Anew cell epoch) e = inl (0, refl, omega arith)
