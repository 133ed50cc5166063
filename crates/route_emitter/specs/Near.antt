-- What events can change of the routes: the entries of the instances that they name, and no others.
use Rattle.std.specs.Prelude.{◌≡◌, ℕ, ◌+◌, ◌<◌, ◌^◌, Bool, true, false, not, ◌&&◌, ◌||◌, List, [], ◌∷◌, ◌++◌, filter, take, drop, Option, Some, None, is_some, IfSome, option_to_list, if◌then◌else◌}
use Rattle.std.specs.BTreeMap.Range.{range_contains}
use Rattle.std.specs.List.{All, flat_map}
use Rattle.std.specs.Option.{option_and_then}
use Rattle.std.specs.declared.cmp.Ordering.TheVariants.{Less}
use Rattle.std.specs.declared.ops.Bound.TheVariants.{Included}
use Rattle.diego_names.specs.Key.{key_order}
use Rattle.diego_names.specs.declared.key.Key.{Key}
use Rattle.lrp_records.specs.Place.{place_of, place_order}
use Rattle.lrp_records.specs.declared.actual.Actual.{Actual}
use Rattle.lrp_records.specs.declared.desired.Desired.{Desired}
use Rattle.lrp_records.specs.declared.presence.Presence.{Presence}
use Rattle.lrp_records.specs.declared.presence.Presence.TheVariants.{Ordinary, Evacuating, Suspect}
use Rattle.row_tables.specs.Table.{find_row, IsRising, put_row, table, without_row}
use Rattle.bbs_model.specs.declared.event.Change.{Change}
use Rattle.bbs_model.specs.declared.event.Event.{Event}
use Rattle.bbs_model.specs.declared.event.Row.{Row}
use Rattle.bbs_model.specs.declared.event.Row.TheVariants as row
use Rattle.route_emitter.specs.Entries.{has, itself, route_order}
use Rattle.route_emitter.specs.Keeping.{stands}
use Rattle.route_emitter.specs.Routes.{entry_among, is_running, routes_in}
use Rattle.route_emitter.specs.declared.entry.RouteEntry.{RouteEntry}

-- the instance that an entry leads to
abbrev pub key_of : RouteEntry → Key
key_of entry = record { process = entry.process; index = entry.index }

-- the entry of an instance by its row of that presence
abbrev pub entry_at : List Desired → List Actual → Key → Presence → Option RouteEntry
entry_at desired running key presence = option_and_then (entry_among desired) (find_row place_order place_of (key, presence) running)

-- its entries by the rows that it may have
abbrev pub entries_at : List Desired → List Actual → Key → List RouteEntry
entries_at desired running key =
    option_to_list (entry_at desired running key Ordinary) ++ option_to_list (entry_at desired running key Evacuating) ++ option_to_list (entry_at desired running key Suspect)

-- the entries of these instances, sorted and each once
abbrev pub entries_of : List Desired → List Actual → List Key → List RouteEntry
entries_of desired running keys = table route_order itself (flat_map (entries_at desired running) keys)

-- the instance has a row of that presence
abbrev pub has_row : List Actual → Key → Presence → Bool
has_row running key presence = is_some (find_row place_order place_of (key, presence) running)

-- the instance has a row of some presence
abbrev pub has_rows : List Actual → Key → Bool
has_rows running key = has_row running key Ordinary || has_row running key Evacuating || has_row running key Suspect

-- the instance is one of these
abbrev pub is_among : List Key → Key → Bool
is_among keys key = is_some (find_row key_order (λ k. k) key keys)

-- the index has the instance, whose number is one of 32 bits
abbrev pub IsIndexed : (Key → Bool) → Key → Type 0
IsIndexed indexed key = (indexed key ≡ true) × (key.index < 2 ^ 32)

-- the index has the instance of each row
abbrev pub Covers : (Key → Bool) → List Actual → Type 0
Covers indexed rows = All (λ a. IsIndexed indexed a.key) rows

-- the instance of the row, if it runs after the change
abbrev pub if_put : Change → Actual → Option Key
if_put kind a = if stands kind && is_running a then Some a.key else None

-- the instance whose row runs after the change, if one does
abbrev pub key_put : Change → Row → Option Key
key_put kind (row.Desired d) = None
key_put kind (row.Actual a) = if_put kind a
key_put kind (row.Task t) = None
key_put kind (row.Cell c) = None
key_put kind (row.Domain d) = None

-- the index has the instance of each row that the events let run
abbrev pub WillCover : (Key → Bool) → List Event → Type 0
WillCover indexed events = All (λ e. IfSome (key_put e.change e.row) (IsIndexed indexed)) events

-- the instance whose row changes, if it is that of an instance
abbrev pub key_in : Row → Option Key
key_in (row.Desired d) = None
key_in (row.Actual a) = Some a.key
key_in (row.Task t) = None
key_in (row.Cell c) = None
key_in (row.Domain d) = None

-- the process whose row changes, if it is that of a process
abbrev pub process_in : Row → Option (List ℕ)
process_in (row.Desired d) = Some d.process
process_in (row.Actual a) = None
process_in (row.Task t) = None
process_in (row.Cell c) = None
process_in (row.Domain d) = None

-- the first key, and the last one, that an instance of a process can have
abbrev pub first_of : List ℕ → Key
first_of process = record { process = process; index = 0 }

abbrev pub last_of : List ℕ → Key
last_of process = record { process = process; index = 4294967295 }

-- the keys of a process among these
abbrev pub of_process : List Key → List ℕ → List Key
of_process keys process = filter (range_contains key_order (Included (first_of process)) (Included (last_of process))) keys

-- what a change of the row concerns is among them: its instance, or each indexed instance of its process
abbrev pub IsNamed : (Key → Bool) → List Key → Row → Type 0
IsNamed indexed named (row.Desired d) = (key : Key) → IsIndexed indexed key → key.process ≡ d.process → is_among named key ≡ true
IsNamed indexed named (row.Actual a) = is_among named a.key ≡ true
IsNamed indexed named (row.Task t) = Unit {0}
IsNamed indexed named (row.Cell c) = Unit {0}
IsNamed indexed named (row.Domain d) = Unit {0}

-- what each event concerns is among them
abbrev pub AreNamed : (Key → Bool) → List Key → List Event → Type 0
AreNamed indexed named events = All (λ e. IsNamed indexed named e.row) events

-- the entries of other instances are the same
abbrev pub KeepsOthers : List Key → List RouteEntry → List RouteEntry → Type 0
KeepsOthers named old new = (e : RouteEntry) → is_among named (key_of e) ≡ false → has old e ≡ has new e

-- the table is that of these rows, and the index has the instance of each of them
pub record IsFollowed (indexed : Key → Bool) (desired : List Desired) (running : List Actual) (entries : List RouteEntry) : Type 0 where
  pub table : entries ≡ routes_in desired running
  pub covers : Covers indexed running

-- the entries without this one if they have it, and else with it
abbrev pub toggle : RouteEntry → List RouteEntry → List RouteEntry
toggle entry entries = if has entries entry then without_row route_order itself entry entries else put_row route_order itself entry entries

-- the same for each of these, one after another
abbrev pub toggle_each : List RouteEntry → List RouteEntry → List RouteEntry
toggle_each [] entries = entries
toggle_each (e ∷ es) entries = toggle_each es (toggle e entries)

-- the entry is above all before that place, and below all behind it
pub record IsBetween (entry : RouteEntry) (entries : List RouteEntry) (at : ℕ) : Type 0 where
  pub above : All (λ e. route_order e entry ≡ Less) (take at entries)
  pub below : All (λ e. route_order entry e ≡ Less) (drop (at + 1) entries)

-- each old entry out and a new one in, pair by pair
abbrev pub exchange_each : List RouteEntry → List RouteEntry → List RouteEntry → List RouteEntry
exchange_each [] new entries = entries
exchange_each (o ∷ os) [] entries = entries
exchange_each (o ∷ os) (n ∷ ns) entries = exchange_each os ns (toggle n (toggle o entries))

-- both lists are sorted, and have no entry in common
pub record AreApart (comes goes : List RouteEntry) : Type 0 where
  pub comes_rise : IsRising route_order itself comes
  pub goes_rise : IsRising route_order itself goes
  pub apart : (e : RouteEntry) → has comes e ≡ true → has goes e ≡ false

-- sorted entries of which each that comes or goes is in or out other than before
pub record IsSwitched (comes goes old new : List RouteEntry) : Type 0 where
  pub rising : IsRising route_order itself new
  pub each : (e : RouteEntry) → has new e ≡ (if has comes e || has goes e then not (has old e) else has old e)
