-- Values by keys that may end, found by the seconds at which they do.
use Rattle.std.specs.Prelude.{◌≡◌, ℕ, Bool, true, List, nat_eq, Option, Some}
use Rattle.std.specs.Map.{lookup}
use Rattle.crash_backoff.specs.declared.moment.Moment.{Moment}
use Rattle.work_causes.specs.Causes.{is_reached}
use Rattle.work_causes.specs.declared.cause.Lease.{Lease}
use Rattle.watch_lists.specs.Groups.{Grouped, is_in}

-- values by keys, and the keys under the seconds at which their values end; and for how many more there is room
pub record Ended (K V : Type 0) : Type 0 where
  pub entries : List (K × V)
  pub ends : Grouped ℕ K
  pub spare : ℕ

-- a lease ends at its until
abbrev pub end_of_lease : Lease → Option ℕ
end_of_lease l = Some l.until

-- a domain ends at the second that is given, if there is one
abbrev pub end_of_domain : Option ℕ → Option ℕ
end_of_domain until = until

module _ {K V : Type 0} (same : K → K → Bool) (ending : V → Option ℕ) where
  -- each key whose value ends is noted under the second at which it does
  abbrev pub AreNoted : List (K × V) → Grouped ℕ K → Type 0
  AreNoted entries ends = (k : K) (v : V) (m : ℕ) → lookup (same k) entries ≡ Some v → ending v ≡ Some m
      → is_in nat_eq same ends m k ≡ true

  -- a key has a value that has ended
  abbrev pub HasEnded : Moment → List (K × V) → K → Type 0
  HasEnded now entries k = (v : V) × (lookup (same k) entries ≡ Some v) × (is_reached now (ending v) ≡ true)
