-- What a log tells of the changes of rows.
use Rattle.std.specs.Prelude.{◌≡◌, ℕ, ◌+◌, ◌-◌, min, List, [], ◌∷◌, length, take, drop, Option, Some, None}
use Rattle.std.specs.List.{flat_map}
use Rattle.std.specs.Option.{option_to_list}
use Rattle.bbs_model.specs.Replay.{after_item}
use Rattle.bbs_model.specs.Step.{events_of}
use Rattle.bbs_model.specs.declared.event.Event.{Event}
use Rattle.bbs_model.specs.declared.event.Events.{Events}
use Rattle.bbs_model.specs.declared.heard.Heard.{Heard}
use Rattle.bbs_model.specs.declared.item.Item.{Item}
use Rattle.bbs_model.specs.declared.item.Item.TheVariants.{Done, Doubt}
use Rattle.bbs_model.specs.declared.rows.Rows.{Rows}

-- what an item tells at these rows: a doubt tells nothing
abbrev pub told_by : Rows → Item → Option Events
told_by rows (Done by c) = events_of rows c
told_by rows (Doubt by c) = None

-- what each item of a log tells, in order
abbrev pub told_in : Rows → List Item → List (Option Events)
told_in rows [] = []
told_in rows (i ∷ is) = told_by rows i ∷ told_in (after_item rows i) is

-- the events of one item, in order
abbrev pub each_event : Option Events → List Event
each_event None = []
each_event (Some e) = e.first ∷ option_to_list e.second

-- the events of at most so many items of a log, from this place on
abbrev pub heard_from : Rows → List Item → ℕ → ℕ → List Event
heard_from base log from max = flat_map each_event (take max (drop from (told_in base log)))

-- what a reader hears from this place on, of at most so many items, and the place after them
pub record IsHeard (base : Rows) (log : List Item) (from max : ℕ) (heard : Heard) : Type 0 where
  pub events : heard.events ≡ heard_from base log from max
  pub upto : heard.upto ≡ from + min max (length log - from)
