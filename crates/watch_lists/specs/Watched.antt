-- When causes hold, by the ends of terms, and values by keys whose causes are watched.
use Rattle.std.specs.Prelude.{◌≡◌, ◌≢◌, ◌⊎◌, ℕ, Bool, true, List, [], ◌∷◌, nat_eq, Option, Some, None}
use Rattle.std.specs.Cmp.Lexicographic.{pointwise}
use Rattle.std.specs.List.{Contains}
use Rattle.std.specs.Map.{lookup}
use Rattle.std.specs.Option.{option_map_or}
use Rattle.crash_backoff.specs.declared.moment.Moment.{Moment}
use Rattle.work_causes.specs.Causes.{Ends, any_holds_by}
use Rattle.work_causes.specs.declared.cause.Cause.{Cause}
use Rattle.work_causes.specs.declared.cause.Cause.TheVariants.{Always, From, Past, While, Anew}
use Rattle.work_causes.specs.declared.cause.Term.{Term}
use Rattle.watch_lists.specs.Groups.{Grouped, is_in}
use Rattle.watch_lists.specs.Watching.{Watching, IsTimed}
use Rattle.watch_lists.specs.declared.leases.Leases.{Leases}

-- the ends that leases tell
abbrev pub ends_in : Leases → Ends
ends_in leases = record {
  cells = λ cell. lookup (pointwise nat_eq cell) leases.cells.entries;
  domains = λ name. lookup (pointwise nat_eq name) leases.domains.entries;
}

-- from when on something holds that holds up to the end of a term: from no moment, or always if it never ends
abbrev pub start_while : Option ℕ → Option ℕ
start_while until = option_map_or (λ _. None) until (Some 0)

-- the moment from which on a cause holds, if it has one; a cause that holds at some moments only is given the first
abbrev pub start_of : (Term → Option ℕ) → Cause → Option ℕ
start_of until Always = Some 0
start_of until (From second) = Some second
start_of until (Past term) = until term
start_of until (While term) = start_while (until term)
start_of until (Anew cell epoch) = Some 0

-- the moment up to which it holds, if it has one
abbrev pub stop_of : (Term → Option ℕ) → Cause → Option ℕ
stop_of until Always = None
stop_of until (From second) = None
stop_of until (Past term) = None
stop_of until (While term) = until term
stop_of until (Anew cell epoch) = None

-- one cause
abbrev pub one_cause : Cause → List Cause
one_cause cause = cause ∷ []

-- values by keys, and the causes of keys that are watched; and for how many values more there is room
pub record Watched (K V : Type 0) : Type 0 where
  pub entries : List (K × V)
  pub watch : Watching Cause K
  pub spare : ℕ

module _ {K V : Type 0} (eq : Cause → Cause → Bool) (same : K → K → Bool) where
  -- each cause of each value is watched
  abbrev pub AreWatched : (V → List Cause) → List (K × V) → Watching Cause K → Type 0
  AreWatched causes entries w = (k : K) (v : V) → lookup (same k) entries ≡ Some v
      → (c : Cause) → Contains (causes v) c → is_in eq same w.keys c k ≡ true

module _ {K : Type 0} (eq : Cause → Cause → Bool) (same : K → K → Bool) where
  -- the causes are noted under the moments that the ends of terms tell
  abbrev pub IsTimedBy : (Term → Option ℕ) → Watching Cause K → Type 0
  IsTimedBy until w = IsTimed eq same (start_of until) (stop_of until) w

  -- they are noted by other ends of terms, which differ for this term alone and are given for it
  abbrev pub Shifts : Term → Option ℕ → Watching Cause K → Watching Cause K → Type 0
  Shifts term end old new = (until until2 : Term → Option ℕ) → ((s : Term) → term ≢ s → until2 s ≡ until s)
      → until2 term ≡ end → IsTimedBy until old → IsTimedBy until2 new

  -- each key has the causes that it had
  abbrev pub KeepsAll : Watching Cause K → Watching Cause K → Type 0
  KeepsAll old new = (c : Cause) (k : K) → is_in eq same old.keys c k ≡ true → is_in eq same new.keys c k ≡ true

  -- each key but one has the causes that it had
  abbrev pub KeepsOthers : K → Watching Cause K → Watching Cause K → Type 0
  KeepsOthers key old new =
      (c : Cause) (k : K) → key ≢ k → is_in eq same old.keys c k ≡ true → is_in eq same new.keys c k ≡ true

  -- a key has a cause that is noted under a moment
  abbrev pub IsUnder : Grouped Cause K → Grouped ℕ Cause → ℕ → K → Type 0
  IsUnder keys items m k = (c : Cause) × (is_in nat_eq eq items m c ≡ true) × (is_in eq same keys c k ≡ true)

-- a key has a value of which a cause holds
abbrev pub IsDue : {K V : Type 0} → (K → K → Bool) → (V → List Cause) → Ends → Moment → List (K × V) → K → Type 0
IsDue {K} {V} same causes ends now entries k =
    (v : V) × (lookup (same k) entries ≡ Some v) × (any_holds_by ends now (causes v) ≡ true)

-- a list of keys has got wanted ones, and of those all that are asked for
pub record Finds {K : Type 0} (IsWanted IsAsked : K → Type 0) (old new : List K) : Type 0 where
  pub kept : (k : K) → Contains old k → Contains new k
  pub only : (k : K) → Contains new k → Contains old k ⊎ IsWanted k
  pub all : (k : K) → IsAsked k → IsWanted k → Contains new k

-- the keys are those that are wanted
pub record FindsAll {K : Type 0} (IsWanted : K → Type 0) (found : List K) : Type 0 where
  pub only : (k : K) → Contains found k → IsWanted k
  pub all : (k : K) → IsWanted k → Contains found k
