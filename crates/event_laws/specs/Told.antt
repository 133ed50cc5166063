-- What events make of rows, for one who has the rows before them and hears of nothing else.
use Rattle.std.specs.Prelude.{◌≡◌, true, false, List, [], ◌∷◌, length, Option, Some, None}
use Rattle.bbs_laws.specs.Events.{StandsIn}
use Rattle.bbs_model.specs.Replay.{replay, AreLegal}
use Rattle.bbs_model.specs.Step.{rows_after, with_row, without_place_of, advanced, has_place_of, events_of}
use Rattle.bbs_model.specs.declared.command.Command.{Command}
use Rattle.bbs_model.specs.declared.event.Change.{Change}
use Rattle.bbs_model.specs.declared.event.Change.TheVariants.{Created, Changed, Removed}
use Rattle.bbs_model.specs.declared.event.Event.{Event}
use Rattle.bbs_model.specs.declared.event.Events.{Events}
use Rattle.bbs_model.specs.declared.event.Row.{Row}
use Rattle.bbs_model.specs.declared.rows.Rows.{Rows}

-- the rows with this one in its place, or with none there where it was removed
abbrev pub with_change : Change → Row → Rows → Rows
with_change Created r rows = with_row rows r
with_change Changed r rows = with_row rows r
with_change Removed r rows = without_place_of rows r

-- the rows after an event
abbrev pub with_event : Event → Rows → Rows
with_event event rows = with_change event.change event.row rows

-- the rows after events, one after another
abbrev pub with_events : List Event → Rows → Rows
with_events [] rows = rows
with_events (e ∷ es) rows = with_events es (with_event e rows)

-- an event that there may be, behind the first
abbrev pub with_second : Event → Option Event → List Event
with_second first None = first ∷ []
with_second first (Some second) = first ∷ second ∷ []

-- the events of one transition, in order
abbrev pub both_events : Events → List Event
both_events events = with_second events.first events.second

-- the rows after the events of one transition, which is counted
abbrev pub after_events : Rows → Events → Rows
after_events rows events = advanced (with_events (both_events events) rows)

-- the rows after the events of transitions, one after another
abbrev pub after_all : Rows → List Events → Rows
after_all rows [] = rows
after_all rows (t ∷ ts) = after_all (after_events rows t) ts

-- just before a row is created none stands at its key, one does before it is changed, and before it is
-- removed this very row stands there
abbrev pub FitsRows : Change → Row → Rows → Type 0
FitsRows Created r rows = has_place_of rows r ≡ false
FitsRows Changed r rows = has_place_of rows r ≡ true
FitsRows Removed r rows = StandsIn rows r

-- just after a row is created or changed it stands at its key, and after it is removed none does
abbrev pub IsShown : Change → Row → Rows → Type 0
IsShown Created r rows = StandsIn rows r
IsShown Changed r rows = StandsIn rows r
IsShown Removed r rows = has_place_of rows r ≡ false

-- each event is due at the rows after those before it
abbrev pub AreDue : Rows → List Event → Type 0
AreDue rows [] = Unit {0}
AreDue rows (e ∷ es) = FitsRows e.change e.row rows × AreDue (with_event e rows) es

-- these events are all that a transition did between the two
pub record TellAll (old new : Rows) (events : Events) : Type 0 where
  pub all : new ≡ after_events old events
  pub due : AreDue old (both_events events)

-- a legal command is told of, and its events tell all that it does
pub record TellsAll (rows : Rows) (c : Command) : Type 0 where
  pub events : Events
  pub told : events_of rows c ≡ Some events
  pub tell : TellAll rows (rows_after rows c) events

-- in front of what is told later
abbrev pub told_before : Option Events → List Events → List Events
told_before None later = later
told_before (Some events) later = events ∷ later

-- what is told of commands, transition by transition
abbrev pub told_of_commands : Rows → List Command → List Events
told_of_commands rows [] = []
told_of_commands rows (c ∷ cs) = told_before (events_of rows c) (told_of_commands (rows_after rows c) cs)

-- who has a board's rows, and then hears of each of its transitions, has its rows after them
pub record FollowsTheBoard (rows : Rows) (cs : List Command) : Type 0 where
  pub rows_are : AreLegal rows cs → replay rows cs ≡ after_all rows (told_of_commands rows cs)
  pub each : AreLegal rows cs → length (told_of_commands rows cs) ≡ length cs
