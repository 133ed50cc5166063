-- What is told of a command's changes, and that it is true.
use Rattle.std.specs.Prelude.{true, Option, Some, ◌≡◌, false, None, IfSome, IsSomeAnd}
use Rattle.diego_names.specs.declared.key.Key.{Key}
use Rattle.lrp_records.specs.Place.{place_of}
use Rattle.lrp_records.specs.declared.presence.Presence.{Presence}
use Rattle.lrp_records.specs.declared.presence.Presence.TheVariants.{Ordinary, Evacuating, Suspect}
use Rattle.bbs_model.specs.Step.{rows_after, has_place_of, events_of}
use Rattle.bbs_model.specs.Tables.{find_desired, find_actual, find_task, find_cell, find_domain}
use Rattle.bbs_model.specs.declared.command.Command.{Command}
use Rattle.bbs_model.specs.declared.command.Op.{Op}
use Rattle.bbs_model.specs.declared.command.Op.TheVariants as op
use Rattle.bbs_model.specs.declared.event.Change.{Change}
use Rattle.bbs_model.specs.declared.event.Change.TheVariants.{Created, Changed, Removed}
use Rattle.bbs_model.specs.declared.event.Event.{Event}
use Rattle.bbs_model.specs.declared.event.Events.{Events}
use Rattle.bbs_model.specs.declared.event.Row.{Row}
use Rattle.bbs_model.specs.declared.event.Row.TheVariants as row
use Rattle.bbs_model.specs.declared.rows.Rows.{Rows}

-- it is the row of that instance with this presence
abbrev pub IsRowAt : Key → Presence → Row → Type 0
IsRowAt key presence (row.Desired d) = ⊥
IsRowAt key presence (row.Actual a) = place_of a ≡ (key, presence)
IsRowAt key presence (row.Task t) = ⊥
IsRowAt key presence (row.Cell c) = ⊥
IsRowAt key presence (row.Domain d) = ⊥

-- the ORDINARY row of an instance changed
pub record IsOfOrdinary (key : Key) (event : Event) : Type 0 where
  pub change : event.change ≡ Changed
  pub row : IsRowAt key Ordinary event.row

-- an instance has its row with this presence, and its ORDINARY row changed after that
pub record TellsAside (key : Key) (presence : Presence) (events : Events) : Type 0 where
  pub first : IsRowAt key presence events.first.row
  pub second : IsSomeAnd events.second (IsOfOrdinary key)

-- the place of the row in which a command keeps an instance aside, if it keeps one
abbrev pub aside_in : Op → Option (Key × Presence)
aside_in (op.Evacuate key instance) = Some (key, Evacuating)
aside_in (op.Suspect key instance) = Some (key, Suspect)
aside_in other = None

-- an evacuation and a suspicion change two rows, and any other command one
pub record TellsEachRow (rows : Rows) (c : Command) : Type 0 where
  pub two : (key : Key) (presence : Presence) → aside_in c.op ≡ Some (key, presence) →
      IfSome (events_of rows c) (TellsAside key presence)
  pub one : aside_in c.op ≡ None → IfSome (events_of rows c) (λ (events : Events). events.second ≡ None)

-- this row stands in its place
abbrev pub StandsIn : Rows → Row → Type 0
StandsIn rows (row.Desired d) = find_desired rows d.process ≡ Some d
StandsIn rows (row.Actual a) = find_actual rows a.key a.presence ≡ Some a
StandsIn rows (row.Task t) = find_task rows t.name ≡ Some t
StandsIn rows (row.Cell c) = find_cell rows c.cell ≡ Some c
StandsIn rows (row.Domain d) = find_domain rows d.domain ≡ Some d

-- what is said of a row: it came where none was, it came in the place of one, or it stood and is gone
abbrev pub SaysSo : Change → Row → Rows → Rows → Type 0
SaysSo Created r old new = (has_place_of old r ≡ false) × StandsIn new r
SaysSo Changed r old new = (has_place_of old r ≡ true) × StandsIn new r
SaysSo Removed r old new = StandsIn old r × (has_place_of new r ≡ false)

-- each event is true of the rows before and after it; between two events are rows of their own
pub record AreTrue (old new : Rows) (events : Events) : Type 0 where
  pub between : Rows
  pub first : SaysSo events.first.change events.first.row old between
  pub second : IfSome events.second (λ (e : Event). SaysSo e.change e.row between new)
  pub alone : events.second ≡ None → between ≡ new

-- what is told of a command's changes is true
abbrev pub TellsTruth : Rows → Command → Type 0
TellsTruth rows c = IfSome (events_of rows c) (AreTrue rows (rows_after rows c))
