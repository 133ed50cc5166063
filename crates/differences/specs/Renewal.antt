-- How what is kept is brought along by an event: what the event can touch is read from the new rows.
use Rattle.std.specs.Prelude.{◌≡◌, ◌≢◌, ℕ, ◌+◌, ◌*◌, ◌<◌, ◌≤◌, ◌⊎◌, List, [], ◌∷◌, Option}
use Rattle.std.specs.Option.{option_map, unwrap_or}
use Rattle.diego_names.specs.declared.key.Key.{Key}
use Rattle.lrp_records.specs.declared.presence.Presence.{Presence}
use Rattle.lrp_records.specs.declared.presence.Presence.TheVariants.{Ordinary}
use Rattle.bbs_model.specs.Limits.{most_instances}
use Rattle.bbs_model.specs.Tables.{find_task}
use Rattle.bbs_model.specs.declared.event.Row.{Row}
use Rattle.bbs_model.specs.declared.event.Row.TheVariants as row
use Rattle.bbs_model.specs.declared.rows.Rows.{Rows}
use Rattle.convergence.specs.Subjects.{OfPlace}
use Rattle.work_causes.specs.Causes.{causes_of, end_in, lease_in, task_cause}
use Rattle.work_causes.specs.declared.cause.Causes.{Causes}
use Rattle.differences.specs.Noted.{Keeping, Room, causes_at, is_below, is_counted, named}
use Rattle.differences.specs.Standing.{count_in}

-- the row is of another instance, or of none
abbrev pub IsKeyApart : Row → Key → Type 0
IsKeyApart (row.Desired d) key = Unit {0}
IsKeyApart (row.Actual a) key = a.key ≢ key
IsKeyApart (row.Task t) key = Unit {0}
IsKeyApart (row.Cell c) key = Unit {0}
IsKeyApart (row.Domain d) key = Unit {0}

-- the row is of another process, or of none
abbrev pub IsProcessApart : Row → List ℕ → Type 0
IsProcessApart (row.Desired d) process = d.process ≢ process
IsProcessApart (row.Actual a) process = Unit {0}
IsProcessApart (row.Task t) process = Unit {0}
IsProcessApart (row.Cell c) process = Unit {0}
IsProcessApart (row.Domain d) process = Unit {0}

-- the row is of another task, or of none
abbrev pub IsTaskApart : Row → List ℕ → Type 0
IsTaskApart (row.Desired d) name = Unit {0}
IsTaskApart (row.Actual a) name = Unit {0}
IsTaskApart (row.Task t) name = t.name ≢ name
IsTaskApart (row.Cell c) name = Unit {0}
IsTaskApart (row.Domain d) name = Unit {0}

-- the row is of another cell, or of none
abbrev pub IsCellApart : Row → List ℕ → Type 0
IsCellApart (row.Desired d) cell = Unit {0}
IsCellApart (row.Actual a) cell = Unit {0}
IsCellApart (row.Task t) cell = Unit {0}
IsCellApart (row.Cell c) cell = c.cell ≢ cell
IsCellApart (row.Domain d) cell = Unit {0}

-- the row is of another domain, or of none
abbrev pub IsDomainApart : Row → List ℕ → Type 0
IsDomainApart (row.Desired d) name = Unit {0}
IsDomainApart (row.Actual a) name = Unit {0}
IsDomainApart (row.Task t) name = Unit {0}
IsDomainApart (row.Cell c) name = Unit {0}
IsDomainApart (row.Domain d) name = d.domain ≢ name

-- each of the rows is apart
abbrev pub AreApart : {K : Type 0} → (Row → K → Type 0) → List Row → K → Type 0
AreApart Apart [] key = Unit {0}
AreApart Apart (r ∷ rs) key = Apart r key × AreApart Apart rs key

-- something is as the new rows have it, or as it was, where that is apart
abbrev pub IsRenewed : {A : Type 0} → A → A → A → Type 0 → Type 0
IsRenewed fresh old new Apart = (new ≡ fresh) ⊎ ((new ≡ old) × Apart)

-- the place is of an EVACUATING or a SUSPECT row, and had no causes
pub record IsBlank (entries : List ((Key × Presence) × Causes)) (place : Key × Presence) : Type 0 where
  pub aside : place.1 ≢ Ordinary
  pub none : causes_at entries place ≡ []

-- no row is of the instance, and it is wanted as before, or its place was blank
pub record IsPlaceApart (rs : List Row) (old new : Keeping) (place : Key × Presence) : Type 0 where
  pub apart : AreApart IsKeyApart rs place.0
  pub wanted : (is_counted new.wanted place.0 ≡ is_counted old.wanted place.0) ⊎ IsBlank old.places place

-- all that these rows may have touched is as the new rows of the board have it
pub record Renews (rows : Rows) (rs : List Row) (old new : Keeping) : Type 0 where
  pub places : (place : Key × Presence) → IsRenewed (causes_of rows (OfPlace place))
      (causes_at old.places place) (causes_at new.places place) (IsPlaceApart rs old new place)
  pub tasks : (name : List ℕ) → IsRenewed (option_map task_cause (find_task rows name))
      (named old.tasks name) (named new.tasks name) (AreApart IsTaskApart rs name)
  pub wanted : (process : List ℕ) → IsRenewed (count_in rows process)
      (named old.wanted process) (named new.wanted process) (AreApart IsProcessApart rs process)
  pub cells : (cell : List ℕ) → IsRenewed (lease_in rows cell)
      (named old.cells cell) (named new.cells cell) (AreApart IsCellApart rs cell)
  pub domains : (name : List ℕ) → IsRenewed (end_in rows name)
      (named old.domains name) (named new.domains name) (AreApart IsDomainApart rs name)

-- the instance is of another process, or its index is outside a range
abbrev pub IsOutside : List ℕ → ℕ → ℕ → Key → Type 0
IsOutside process low high key = (process ≢ key.process) ⊎ ((key.index < low) ⊎ (high ≤ key.index))

-- the instance is of another process, or is wanted by one count as by the other
abbrev pub IsUnchanged : List ℕ → Option ℕ → Option ℕ → Key → Type 0
IsUnchanged process before after key = (process ≢ key.process) ⊎ (is_below after key.index ≡ is_below before key.index)

-- no process wants more instances than one may
abbrev pub AreFew : Keeping → Type 0
AreFew k = (process : List ℕ) → unwrap_or (named k.wanted process) 0 ≤ most_instances

-- there is room for the entries of so many events
pub record HasRoomFor (events : ℕ) (room : Room) : Type 0 where
  pub places : events * most_instances ≤ room.places
  pub tasks : events ≤ room.tasks
  pub wanted : events ≤ room.wanted
  pub cells : events ≤ room.cells
  pub domains : events ≤ room.domains

-- at most the room for the entries of so many events was taken
pub record TakesRoomOf (events : ℕ) (old new : Room) : Type 0 where
  pub places : old.places ≤ new.places + events * most_instances
  pub tasks : old.tasks ≤ new.tasks + events
  pub wanted : old.wanted ≤ new.wanted + events
  pub cells : old.cells ≤ new.cells + events
  pub domains : old.domains ≤ new.domains + events
