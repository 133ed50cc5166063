-- What of that which is kept is due at a moment.
use Rattle.std.specs.Prelude.{ℕ, Bool, List, [], ◌∷◌, ◌++◌, map, nat_eq, Option, Some, if◌then◌else◌}
use Rattle.std.specs.Cmp.Lexicographic.{pointwise}
use Rattle.std.specs.List.{IsDistinct}
use Rattle.std.specs.Map.{keys_of}
use Rattle.std.specs.declared.cmp.Ordering.{Ordering}
use Rattle.crash_backoff.specs.declared.moment.Moment.{Moment}
use Rattle.diego_names.specs.Order.{name_order}
use Rattle.diego_names.specs.declared.key.Key.{Key}
use Rattle.lrp_records.specs.Place.{place_order}
use Rattle.lrp_records.specs.declared.presence.Presence.{Presence}
use Rattle.row_tables.specs.Table.{table}
use Rattle.convergence.specs.Subjects.{Subject, OfCell, OfDomain, OfPlace, OfTask}
use Rattle.work_causes.specs.Causes.{Ends, any_holds_by, end_causes, lease_causes, listed}
use Rattle.work_causes.specs.declared.cause.Cause.{Cause}
use Rattle.work_causes.specs.declared.cause.Lease.{Lease}
use Rattle.differences.specs.Noted.{Noted, ends_by, is_place}

-- the keys of the entries whose value passes a test
abbrev pub keys_that : {K V : Type 0} → (V → Bool) → List (K × V) → List K
keys_that test [] = []
keys_that test (e ∷ es) = if test e.1 then e.0 ∷ keys_that test es else keys_that test es

-- the keys of the entries of which a cause holds
abbrev pub keys_due : {K V : Type 0} → (V → List Cause) → Ends → Moment → List (K × V) → List K
keys_due causes ends now entries = keys_that (λ v. any_holds_by ends now (causes v)) entries

-- the same, each once and in order
abbrev pub due_keys : {K V : Type 0} → (K → K → Ordering) → (V → List Cause) → Ends → Moment → List (K × V) → List K
due_keys R causes ends now entries = table R (λ k. k) (keys_due causes ends now entries)

-- the causes of a cell by its lease
abbrev pub causes_of_lease : Lease → List Cause
causes_of_lease l = lease_causes (Some l)

-- the causes of a domain by its end
abbrev pub causes_of_end : Option ℕ → List Cause
causes_of_end until = end_causes (Some until)

-- the causes of a task by its one
abbrev pub one_cause : Cause → List Cause
one_cause cause = cause ∷ []

-- no two entries have one key
pub record AreUnique (d : Noted) : Type 0 where
  pub places : IsDistinct is_place (keys_of d.places)
  pub tasks : IsDistinct (pointwise nat_eq) (keys_of d.tasks)
  pub cells : IsDistinct (pointwise nat_eq) (keys_of d.cells)
  pub domains : IsDistinct (pointwise nat_eq) (keys_of d.domains)

-- what is due of each kind
pub record DueKeys : Type 0 where
  pub cells : List (List ℕ)
  pub domains : List (List ℕ)
  pub places : List (Key × Presence)
  pub tasks : List (List ℕ)

-- the subjects of which a cause holds, in their order
abbrev pub due_in : Noted → Moment → DueKeys
due_in d now = let ends = ends_by d.cells d.domains in record {
  cells = due_keys name_order causes_of_lease ends now d.cells;
  domains = due_keys name_order causes_of_end ends now d.domains;
  places = due_keys place_order listed ends now d.places;
  tasks = due_keys name_order one_cause ends now d.tasks;
}

-- the same in one list
abbrev pub subjects_in : DueKeys → List Subject
subjects_in due = map OfCell due.cells ++ (map OfDomain due.domains ++ (map OfPlace due.places ++ map OfTask due.tasks))
