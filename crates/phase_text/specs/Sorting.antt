-- Answers by their line, and events by their row.
use Rattle.std.specs.Prelude.{ℕ, Bool, nat_lt, List, [], ◌∷◌, if◌then◌else◌}
use Rattle.std.specs.List.{flat_map}
use Rattle.std.specs.Ordering.{is_lt, nat_cmp, on, then_cmp}
use Rattle.std.specs.declared.cmp.Ordering.{Ordering}
use Rattle.bbs_model.specs.declared.event.Event.{Event}
use Rattle.bbs_model.specs.declared.event.Row.{Row}
use Rattle.bbs_model.specs.declared.event.Row.TheVariants as row
use Rattle.diego_names.specs.Order.{name_order}
use Rattle.lrp_records.specs.Presence.{presence_order}
use Rattle.lrp_records.specs.declared.presence.Presence.{Presence}
use Rattle.lrp_records.specs.declared.presence.Presence.TheVariants.{Ordinary}
use Rattle.scenario_lines.specs.declared.answered.Answered.{Answered}

-- elements that stand in order, with one more: it comes behind those that stand before it, and before all others
abbrev pub with_placed : {X : Type 0} → (X → X → Bool) → X → List X → List X
with_placed is_before x [] = x ∷ []
with_placed is_before x (y ∷ ys) = if is_before y x then y ∷ with_placed is_before x ys else x ∷ y ∷ ys

-- the elements in order; those of which neither stands before the other stay in their order
abbrev pub sorted_by : {X : Type 0} → (X → X → Bool) → List X → List X
sorted_by is_before [] = []
sorted_by is_before (x ∷ xs) = with_placed is_before x (sorted_by is_before xs)

-- an answer is to an earlier line than another
abbrev pub is_earlier_line : Answered → Answered → Bool
is_earlier_line a b = nat_lt a.line b.line

-- the parts, one behind the other
abbrev pub joined_parts : List (List Answered) → List Answered
joined_parts parts = flat_map (λ part. part) parts

-- all answers of the parts by line; those to one line stay in their order
abbrev pub by_line : List (List Answered) → List Answered
by_line parts = sorted_by is_earlier_line (joined_parts parts)

-- where a row stands among those of all tables; rows without an index have 0, and those without a presence are as ORDINARY
-- ones
pub record Spot : Type 0 where
  pub table : ℕ
  pub name : List ℕ
  pub index : ℕ
  pub presence : Presence

-- where a row stands: desired rows, actual rows, tasks, cells and domains come in this order
abbrev pub spot_of : Row → Spot
spot_of (row.Desired d) = record { table = 0; name = d.process; index = 0; presence = Ordinary }
spot_of (row.Actual a) = record { table = 1; name = a.key.process; index = a.key.index; presence = a.presence }
spot_of (row.Task t) = record { table = 2; name = t.name; index = 0; presence = Ordinary }
spot_of (row.Cell c) = record { table = 3; name = c.cell; index = 0; presence = Ordinary }
spot_of (row.Domain d) = record { table = 4; name = d.domain; index = 0; presence = Ordinary }

-- by table, then by key, and of an instance the ORDINARY row first, then the EVACUATING one, then the SUSPECT one
abbrev pub event_order : Spot → Spot → Ordering
event_order =
    then_cmp (on (λ s. s.table) nat_cmp)
    (then_cmp (on (λ s. s.name) name_order)
    (then_cmp (on (λ s. s.index) nat_cmp) (on (λ s. s.presence) presence_order)))

-- an event is about a row that stands before that of another
abbrev pub is_earlier_row : Event → Event → Bool
is_earlier_row a b = is_lt (event_order (spot_of a.row) (spot_of b.row))

-- the events by table, key and presence; those of one row stay in their order
abbrev pub by_key : List Event → List Event
by_key events = sorted_by is_earlier_row events
