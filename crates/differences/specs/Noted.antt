-- What differences keep of a board's rows, as lists of entries that are looked up by name.
use Rattle.std.specs.Prelude.{ℕ, ◌/◌, ◌&&◌, Bool, false, List, [], min, nat_eq, nat_lt, option_to_list, Option}
use Rattle.std.specs.Cmp.Lexicographic.{pointwise}
use Rattle.std.specs.Map.{lookup}
use Rattle.std.specs.Option.{option_map_or}
use Rattle.diego_names.specs.declared.key.Key.{Key}
use Rattle.lrp_records.specs.Presence.{rank_of}
use Rattle.lrp_records.specs.declared.presence.Presence.{Presence}
use Rattle.convergence.specs.Subjects.{Subject, OfCell, OfDomain, OfPlace, OfTask, OfProcess}
use Rattle.work_causes.specs.Causes.{Ends, end_causes, lease_causes, listed}
use Rattle.work_causes.specs.declared.cause.Cause.{Cause}
use Rattle.work_causes.specs.declared.cause.Causes.{Causes}
use Rattle.work_causes.specs.declared.cause.Lease.{Lease}

-- the causes of places and tasks, how many instances processes want, the leases of cells and the ends of
-- domains, each beside its name; and for how many transitions there is room
pub record Noted : Type 0 where
  pub places : List ((Key × Presence) × Causes)
  pub tasks : List (List ℕ × Cause)
  pub wanted : List (List ℕ × ℕ)
  pub cells : List (List ℕ × Lease)
  pub domains : List (List ℕ × Option ℕ)
  pub spare : ℕ

-- the two are one place
abbrev pub is_place : Key × Presence → Key × Presence → Bool
is_place a b =
    (pointwise nat_eq a.0.process b.0.process && nat_eq a.0.index b.0.index) && nat_eq (rank_of a.1) (rank_of b.1)

-- the value beside a name
abbrev pub named : {V : Type 0} → List (List ℕ × V) → List ℕ → Option V
named entries name = lookup (pointwise nat_eq name) entries

-- the causes beside a place, none where there is no entry
abbrev pub causes_at : List ((Key × Presence) × Causes) → Key × Presence → List Cause
causes_at entries place = option_map_or listed (lookup (is_place place) entries) []

-- the index is below the count, if there is one
abbrev pub is_below : Option ℕ → ℕ → Bool
is_below count index = option_map_or (λ (n : ℕ). nat_lt index n) count false

-- the instance is wanted by the counts of processes
abbrev pub is_counted : List (List ℕ × ℕ) → Key → Bool
is_counted counts key = is_below (named counts key.process) key.index

-- the ends that these entries tell
abbrev pub ends_by : List (List ℕ × Lease) → List (List ℕ × Option ℕ) → Ends
ends_by cells domains = record { cells = named cells; domains = named domains }

-- how many instances the process wants, if it is desired
abbrev pub counted : Noted → List ℕ → Option ℕ
counted d process = named d.wanted process

-- the lease of a cell that has joined
abbrev pub celled : Noted → List ℕ → Option Lease
celled d cell = named d.cells cell

-- the end of a domain that has a row
abbrev pub domained : Noted → List ℕ → Option (Option ℕ)
domained d name = named d.domains name

-- the causes of a subject
abbrev pub noted : Noted → Subject → List Cause
noted d (OfCell cell) = lease_causes (celled d cell)
noted d (OfDomain name) = end_causes (domained d name)
noted d (OfPlace place) = causes_at d.places place
noted d (OfTask name) = option_to_list (named d.tasks name)
noted d (OfProcess process) = []

-- for how many entries there is room, of each kind
pub record Room : Type 0 where
  pub places : ℕ
  pub tasks : ℕ
  pub wanted : ℕ
  pub cells : ℕ
  pub domains : ℕ

-- for how many transitions that is: each of the two events of one may bring the causes of 1,000 places, and one
-- entry of each other kind
abbrev pub transitions_in : Room → ℕ
transitions_in room = min (room.places / 2000)
    (min (room.tasks / 2) (min (room.wanted / 2) (min (room.cells / 2) (room.domains / 2))))

-- what is kept, with the room for entries of each kind
pub record Keeping : Type 0 where
  pub places : List ((Key × Presence) × Causes)
  pub tasks : List (List ℕ × Cause)
  pub wanted : List (List ℕ × ℕ)
  pub cells : List (List ℕ × Lease)
  pub domains : List (List ℕ × Option ℕ)
  pub room : Room

-- the same, with the room for transitions
abbrev pub noted_of : Keeping → Noted
noted_of k = record {
  places = k.places;
  tasks = k.tasks;
  wanted = k.wanted;
  cells = k.cells;
  domains = k.domains;
  spare = transitions_in k.room;
}
