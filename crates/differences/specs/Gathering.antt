-- How what is kept is gathered from the rows of a board.
use Rattle.std.specs.Prelude.{◌≡◌, ℕ, ◌<◌, ◌⊎◌, List, [], Option}
use Rattle.std.specs.List.{Contains}
use Rattle.diego_names.specs.declared.key.Key.{Key}
use Rattle.lrp_records.specs.Place.{place_of}
use Rattle.lrp_records.specs.declared.actual.Actual.{Actual}
use Rattle.lrp_records.specs.declared.desired.Desired.{Desired}
use Rattle.lrp_records.specs.declared.presence.Presence.{Presence}
use Rattle.lrp_records.specs.declared.presence.Presence.TheVariants.{Ordinary}
use Rattle.bbs_model.specs.declared.domain_row.DomainRow.{DomainRow}
use Rattle.bbs_model.specs.declared.rows.Rows.{Rows}
use Rattle.convergence.specs.Subjects.{OfPlace}
use Rattle.work_causes.specs.Causes.{causes_of}
use Rattle.work_causes.specs.declared.cause.Causes.{Causes}
use Rattle.differences.specs.Noted.{causes_at}

-- how many instances a process wants
abbrev pub instances_of : Desired → ℕ
instances_of row = row.instances

-- the second at which a domain ends, if it does
abbrev pub until_of : DomainRow → Option ℕ
until_of row = row.until

-- the causes of a place stand in the entries
abbrev pub IsSettled : Rows → List ((Key × Presence) × Causes) → Key × Presence → Type 0
IsSettled rows entries place = causes_at entries place ≡ causes_of rows (OfPlace place)

-- the causes of a place stand in the entries, or none do
abbrev pub IsBegun : Rows → List ((Key × Presence) × Causes) → Key × Presence → Type 0
IsBegun rows entries place = IsSettled rows entries place ⊎ (causes_at entries place ≡ [])

-- what stood in the entries still does, and nothing else than the causes of places came
pub record GoesOn (rows : Rows) (old new : List ((Key × Presence) × Causes)) : Type 0 where
  pub settled : (place : Key × Presence) → IsSettled rows old place → IsSettled rows new place
  pub begun : (place : Key × Presence) → IsBegun rows old place → IsBegun rows new place

-- the causes of the instances that a process wants, below an index, stand in the entries
abbrev pub AreInstancesSettled : Rows → List ((Key × Presence) × Causes) → List ℕ → ℕ → Type 0
AreInstancesSettled rows entries process count =
    (i : ℕ) → i < count → IsSettled rows entries (record { process = process; index = i }, Ordinary)

-- and those of these processes
abbrev pub AreWantedSettled : Rows → List ((Key × Presence) × Causes) → List Desired → Type 0
AreWantedSettled rows entries desired =
    (d : Desired) → Contains desired d → AreInstancesSettled rows entries d.process d.instances

-- the causes of the places of these rows stand in the entries
abbrev pub AreRowsSettled : Rows → List ((Key × Presence) × Causes) → List Actual → Type 0
AreRowsSettled rows entries actual = (a : Actual) → Contains actual a → IsSettled rows entries (place_of a)
