-- How much room transitions take.
use Rattle.std.proofs.Common.{ℕ, ◌+◌, ◌*◌, ◌/◌, ◌<◌, ◌≤◌, min, arith}
use Rattle.differences.specs.Noted.{Room, transitions_in}
use Rattle.differences.specs.Renewal.{HasRoomFor, TakesRoomOf}

-- the least of two
min_taken : (a b c d : ℕ) → a ≤ c + 1 → b ≤ d + 1 → min a b ≤ min c d + 1
min_taken a b c d f g = omega arith

min_kept : (a b c d : ℕ) → a ≤ c → b ≤ d → min a b ≤ min c d
min_kept a b c d f g = omega arith

min_above : (n a b : ℕ) → n ≤ a → n ≤ b → n ≤ min a b
min_above n a b f g = omega arith

-- so much room in parts
taken_2000 : (a c : ℕ) → a ≤ c + 2000 → a / 2000 ≤ c / 2000 + 1
taken_2000 a c f = omega arith

taken_2 : (a c : ℕ) → a ≤ c + 2 → a / 2 ≤ c / 2 + 1
taken_2 a c f = omega arith

kept_2000 : (a c : ℕ) → a ≤ c → a / 2000 ≤ c / 2000
kept_2000 a c f = omega arith

kept_2 : (a c : ℕ) → a ≤ c → a / 2 ≤ c / 2
kept_2 a c f = omega arith

parts_2000 : (n a : ℕ) → 2000 * n ≤ a → n ≤ a / 2000
parts_2000 n a f = omega arith

parts_2 : (n a : ℕ) → 2 * n ≤ a → n ≤ a / 2
parts_2 n a f = omega arith

-- at most so much room of each kind was taken
record Takes (places others : ℕ) (a c : Room) : Type 0 where
  places_taken : a.places ≤ c.places + places
  tasks_taken : a.tasks ≤ c.tasks + others
  wanted_taken : a.wanted ≤ c.wanted + others
  cells_taken : a.cells ≤ c.cells + others
  domains_taken : a.domains ≤ c.domains + others

takes_transition : (a c : Room) → Takes 2000 2 a c → transitions_in a ≤ transitions_in c + 1
takes_transition a c t =
    min_taken (a.places / 2000) _ (c.places / 2000) _ (taken_2000 a.places c.places t.places_taken)
    (min_taken (a.tasks / 2) _ (c.tasks / 2) _ (taken_2 a.tasks c.tasks t.tasks_taken)
    (min_taken (a.wanted / 2) _ (c.wanted / 2) _ (taken_2 a.wanted c.wanted t.wanted_taken)
    (min_taken (a.cells / 2) _ (c.cells / 2) _ (taken_2 a.cells c.cells t.cells_taken)
    (taken_2 a.domains c.domains t.domains_taken))))

-- two events take at most the room for a transition
pub transition_taken : (a b c : Room) → TakesRoomOf 1 a b → TakesRoomOf 1 b c → transitions_in a ≤ transitions_in c + 1
transition_taken a b c f g = takes_transition a c (record {
  places_taken = omega (arith, f.places, g.places);
  tasks_taken = omega (arith, f.tasks, g.tasks);
  wanted_taken = omega (arith, f.wanted, g.wanted);
  cells_taken = omega (arith, f.cells, g.cells);
  domains_taken = omega (arith, f.domains, g.domains);
})

-- and one event does, too
pub event_taken : (a c : Room) → TakesRoomOf 1 a c → transitions_in a ≤ transitions_in c + 1
event_taken a c f = takes_transition a c (record {
  places_taken = omega (arith, f.places);
  tasks_taken = omega (arith, f.tasks);
  wanted_taken = omega (arith, f.wanted);
  cells_taken = omega (arith, f.cells);
  domains_taken = omega (arith, f.domains);
})

-- room of each kind that grew is room for as many transitions
pub transitions_kept : (a c : Room) → a.places ≤ c.places → a.tasks ≤ c.tasks → a.wanted ≤ c.wanted → a.cells ≤ c.cells
    → a.domains ≤ c.domains → transitions_in a ≤ transitions_in c
transitions_kept a c places tasks wanted cells domains =
    min_kept (a.places / 2000) _ (c.places / 2000) _ (kept_2000 a.places c.places places)
    (min_kept (a.tasks / 2) _ (c.tasks / 2) _ (kept_2 a.tasks c.tasks tasks)
    (min_kept (a.wanted / 2) _ (c.wanted / 2) _ (kept_2 a.wanted c.wanted wanted)
    (min_kept (a.cells / 2) _ (c.cells / 2) _ (kept_2 a.cells c.cells cells) (kept_2 a.domains c.domains domains))))

-- room for so many transitions
pub transitions_made : (n : ℕ) (c : Room) → 2000 * n ≤ c.places → 2 * n ≤ c.tasks → 2 * n ≤ c.wanted → 2 * n ≤ c.cells
    → 2 * n ≤ c.domains → n ≤ transitions_in c
transitions_made n c places tasks wanted cells domains =
    min_above n (c.places / 2000) _ (parts_2000 n c.places places)
    (min_above n (c.tasks / 2) _ (parts_2 n c.tasks tasks)
    (min_above n (c.wanted / 2) _ (parts_2 n c.wanted wanted)
    (min_above n (c.cells / 2) _ (parts_2 n c.cells cells) (parts_2 n c.domains domains))))

below_min : (n a b : ℕ) → n ≤ min a b → n ≤ a
below_min n a b h = omega arith

below_rest : (n a b : ℕ) → n ≤ min a b → n ≤ b
below_rest n a b h = omega arith

whole_2000 : (n a : ℕ) → n ≤ a / 2000 → 2000 * n ≤ a
whole_2000 n a h = omega arith

whole_2 : (n a : ℕ) → n ≤ a / 2 → 2 * n ≤ a
whole_2 n a h = omega arith

-- room for so many transitions is so much room of each kind
pub record HasParts (n : ℕ) (room : Room) : Type 0 where
  pub of_places : 2000 * n ≤ room.places
  pub of_tasks : 2 * n ≤ room.tasks
  pub of_wanted : 2 * n ≤ room.wanted
  pub of_cells : 2 * n ≤ room.cells
  pub of_domains : 2 * n ≤ room.domains

pub parts_of : (n : ℕ) (room : Room) → n ≤ transitions_in room → HasParts n room
parts_of n room h =
    let one = below_rest n (room.places / 2000) (min (room.tasks / 2)
    (min (room.wanted / 2) (min (room.cells / 2) (room.domains / 2)))) h in
    let two = below_rest n (room.tasks / 2) (min (room.wanted / 2) (min (room.cells / 2) (room.domains / 2))) one in
    let three = below_rest n (room.wanted / 2) (min (room.cells / 2) (room.domains / 2)) two in
    record {
      of_places = whole_2000 n room.places (below_min n (room.places / 2000) _ h);
      of_tasks = whole_2 n room.tasks (below_min n (room.tasks / 2) _ one);
      of_wanted = whole_2 n room.wanted (below_min n (room.wanted / 2) _ two);
      of_cells = whole_2 n room.cells (below_min n (room.cells / 2) _ three);
      of_domains = whole_2 n room.domains (below_rest n (room.cells / 2) (room.domains / 2) three);
    }

-- room for a transition is room for two events
pub room_of_two : (room : Room) → 0 < transitions_in room → HasRoomFor 2 room
room_of_two room h =
    let parts : HasParts 1 room = parts_of 1 room (omega arith) in
    record {
      places = omega (arith, parts.of_places);
      tasks = omega (arith, parts.of_tasks);
      wanted = omega (arith, parts.of_wanted);
      cells = omega (arith, parts.of_cells);
      domains = omega (arith, parts.of_domains);
    }

pub room_of_one : (room : Room) → HasRoomFor 2 room → HasRoomFor 1 room
room_of_one room h = record {
  places = omega (arith, h.places);
  tasks = omega (arith, h.tasks);
  wanted = omega (arith, h.wanted);
  cells = omega (arith, h.cells);
  domains = omega (arith, h.domains);
}

-- what the first event leaves is enough for the second
pub room_left : (old new : Room) → HasRoomFor 2 old → TakesRoomOf 1 old new → HasRoomFor 1 new
room_left old new h t = record {
  places = omega (arith, h.places, t.places);
  tasks = omega (arith, h.tasks, t.tasks);
  wanted = omega (arith, h.wanted, t.wanted);
  cells = omega (arith, h.cells, t.cells);
  domains = omega (arith, h.domains, t.domains);
}
