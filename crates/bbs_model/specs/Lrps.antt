-- What is asked of the instances of processes.
use Rattle.std.specs.Prelude.{ℕ, ◌==◌, ◌&&◌, Bool, false, not, List, [], ◌∷◌, ◌++◌, nat_le, nat_lt, Option, Some, None, is_some, is_none, if◌then◌else◌}
use Rattle.std.specs.Option.{option_map, option_map_or}
use Rattle.cell_records.specs.Presence.{is_present}
use Rattle.cell_records.specs.declared.cell_row.CellRow.{CellRow}
use Rattle.crash_backoff.specs.declared.moment.Moment.{Moment}
use Rattle.diego_names.specs.declared.instance.Instance.{Instance}
use Rattle.diego_names.specs.declared.key.Key.{Key}
use Rattle.lrp_records.specs.Moves.{lrp_move}
use Rattle.lrp_records.specs.States.{name_of, is_same_instance}
use Rattle.lrp_records.specs.declared.actual.Actual.{Actual}
use Rattle.lrp_records.specs.declared.desired.Desired.{Desired}
use Rattle.lrp_records.specs.declared.lrp_move.LrpMove.{LrpMove}
use Rattle.lrp_records.specs.declared.move_end.MoveEnd.{MoveEnd}
use Rattle.lrp_records.specs.declared.move_end.MoveEnd.TheVariants as end
use Rattle.lrp_records.specs.declared.presence.Presence.{Presence}
use Rattle.lrp_records.specs.declared.presence.Presence.TheVariants.{Ordinary, Evacuating, Suspect}
use Rattle.lrp_records.specs.declared.refusal.LrpRefusal.TheVariants.{NotRunning, WrongInstance, WrongState}
use Rattle.lrp_records.specs.declared.state.LrpState.{LrpState}
use Rattle.lrp_records.specs.declared.state.LrpState.TheVariants.{Unclaimed, Claimed, Running, Crashed}
use Rattle.bbs_model.specs.Attempts.{Refusals, unless_refused, if_known, if_joined, put, drop_row}
use Rattle.bbs_model.specs.Limits.{most_actual}
use Rattle.bbs_model.specs.declared.attempt.Attempt.{Attempt}
use Rattle.bbs_model.specs.declared.attempt.Attempt.TheVariants.{Refuse, Keep, Change}
use Rattle.bbs_model.specs.declared.attempt.Edit.TheVariants.{Put}
use Rattle.bbs_model.specs.declared.event.Row.TheVariants as row
use Rattle.bbs_model.specs.declared.found.Found.{Found}
use Rattle.bbs_model.specs.declared.verdict.BoardRefusal.{BoardRefusal}
use Rattle.bbs_model.specs.declared.verdict.BoardRefusal.TheVariants.{Exists, NotWanted, TooMany, LeaseHolds, Lrp}

-- the process is desired with more instances than the index
abbrev pub is_wanted : Option Desired → ℕ → Bool
is_wanted desired index = option_map_or (λ (d : Desired). nat_lt index d.instances) desired false

-- a row as an instance begins: UNCLAIMED, never crashed, since this moment, in this domain
abbrev pub new_row : Key → Option (List ℕ) → Moment → Actual
new_row key domain now = record {
  key = key;
  presence = Ordinary;
  state = Unclaimed;
  count = 0;
  since = now;
  error = false;
  domain = domain;
}

-- the domain of a process that is desired
abbrev pub domain_of : Option Desired → Option (List ℕ)
domain_of desired = option_map (λ (d : Desired). d.domain) desired

-- why an instance can't get its ORDINARY row
abbrev pub make_refusals : Found → Key → Refusals
make_refusals found key =
    (not (is_wanted found.desired key.index), NotWanted)
    ∷ (is_some found.ordinary, Exists)
    ∷ (nat_le most_actual found.counts.actual, TooMany most_actual)
    ∷ []

-- a wanted instance gets its ORDINARY row, in the domain of its process
abbrev pub make : Found → Key → Moment → Attempt
make found key now = unless_refused (make_refusals found key)
    (put (row.Actual (new_row key (domain_of found.desired) now)))

-- what a move's end comes to
abbrev pub moved_to : Actual → MoveEnd → Attempt
moved_to old (end.Changed new) = put (row.Actual new)
moved_to old end.Gone = drop_row (row.Actual old)
moved_to old end.Same = Keep
moved_to old (end.Refused why) = Refuse (Lrp why)

-- a move on the ORDINARY row
abbrev pub move_lrp : Found → LrpMove → Moment → Attempt
move_lrp found move now = if_known found.ordinary (λ old. moved_to old (lrp_move old move now))

-- a move that a cell makes for its container of this epoch
abbrev pub move_lrp_by_cell : Found → ℕ → LrpMove → Moment → Attempt
move_lrp_by_cell found epoch move now = if_known found.ordinary (λ old.
    if_joined found.cell epoch (λ cell. moved_to old (lrp_move old move now)))

-- the state is RUNNING in this container
abbrev pub is_running_as : LrpState → Instance → Bool
is_running_as (Running held cell) instance = is_same_instance instance held
is_running_as other instance = false

-- the row is there and RUNNING in this container
abbrev pub runs_as : Option Actual → Instance → Bool
runs_as old instance = option_map_or (λ (r : Actual). is_running_as r.state instance) old false

-- what the row that is kept aside with this presence says: RUNNING as the ORDINARY row was, with its count,
-- moment and domain
abbrev pub aside_row : Presence → Actual → Actual
aside_row presence old = record old { presence = presence; error = false }

-- what the ORDINARY row becomes: UNCLAIMED from now on, with its count and domain
abbrev pub left_row : Actual → Moment → Actual
left_row old now = record old { state = Unclaimed; since = now; error = false }

-- another container has the row, or it is CLAIMED and doesn't run yet
abbrev pub wrong_state_or_instance : Instance → Instance → LrpState → BoardRefusal
wrong_state_or_instance instance held state =
    if is_same_instance instance held then Lrp (WrongState (name_of state)) else Lrp (WrongInstance held)

-- why a row that doesn't run in this container can't be kept aside
abbrev pub stays_because : LrpState → Instance → BoardRefusal
stays_because Unclaimed instance = Lrp NotRunning
stays_because (Claimed held cell) instance = wrong_state_or_instance instance held (Claimed held cell)
stays_because (Running held cell) instance = wrong_state_or_instance instance held (Running held cell)
stays_because Crashed instance = Lrp NotRunning

-- why an instance that runs can't get its row aside; `kept` is the one that it has
abbrev pub aside_refusals : Option Actual → Found → Refusals
aside_refusals kept found = (is_none kept && nat_le most_actual found.counts.actual, TooMany most_actual) ∷ []

-- the running instance is kept in its row with this presence, and the ORDINARY row is placed anew
abbrev pub set_aside : Presence → Actual → Moment → Attempt
set_aside presence old now =
    Change (Put (row.Actual (aside_row presence old))) (Some (Put (row.Actual (left_row old now))))

-- an instance is kept aside where its row is RUNNING in this container and nothing is against it; it is
-- already where the row aside is of this container
abbrev pub keeps_aside : Presence → Option Actual → Refusals → Found → Instance → Moment → Attempt
keeps_aside presence kept refusals found instance now =
    if runs_as kept instance && not (runs_as found.ordinary instance) then Keep
    else if_known found.ordinary (λ old.
    if is_running_as old.state instance then unless_refused refusals (set_aside presence old now)
    else Refuse (stays_because old.state instance))

-- the row aside of this container is dropped
abbrev pub drop_aside : Option Actual → Instance → Attempt
drop_aside kept instance = if_known kept (λ old.
    if is_running_as old.state instance then drop_row (row.Actual old)
    else Refuse (stays_because old.state instance))

-- a cell that is being emptied keeps its instance in an EVACUATING row
abbrev pub evacuate : Found → Instance → Moment → Attempt
evacuate found instance now =
    keeps_aside Evacuating found.evacuating (aside_refusals found.evacuating found) found instance now

-- the EVACUATING row of this container is dropped
abbrev pub drop_evacuating : Found → Instance → Attempt
drop_evacuating found instance = drop_aside found.evacuating instance

-- why a container can't be suspected: its cell has joined with this epoch, and its lease holds
abbrev pub lease_refusals : Option CellRow → ℕ → Moment → Refusals
lease_refusals None epoch now = []
lease_refusals (Some cell) epoch now = (cell.epoch == epoch && is_present cell now, LeaseHolds cell.until) ∷ []

-- an instance whose cell has gone silent is kept in a SUSPECT row
abbrev pub suspect : Found → Instance → Moment → Attempt
suspect found instance now = keeps_aside Suspect found.suspect
    (lease_refusals found.cell instance.epoch now ++ aside_refusals found.suspect found) found instance now

-- the SUSPECT row of this container is dropped
abbrev pub drop_suspect : Found → Instance → Attempt
drop_suspect found instance = drop_aside found.suspect instance
