-- The actors of a scenario, and their numbers.
use Rattle.std.specs.Prelude.{ℕ, ◌+◌, List, [], ◌∷◌, ◌++◌, Bool, ◌&&◌, nat_eq, if◌then◌else◌}
use Rattle.std.specs.Bool.{beq}
use Rattle.std.specs.Cmp.Lexicographic.{pointwise}
use Rattle.std.specs.List.{list_any, position_or_len}
use Rattle.scenario_lines.specs.declared.actor.Actor.{Actor}
use Rattle.scenario_lines.specs.declared.content.Content.{Content}
use Rattle.scenario_lines.specs.declared.content.Content.TheVariants.{Phase, Acts, Round}
use Rattle.scenario_reader.specs.Said.{SaidLine}

-- both are cells or both clients, and they have one name
abbrev pub is_same_actor : Actor → Actor → Bool
is_same_actor a b = beq a.cell b.cell && pointwise nat_eq a.name b.name

-- the actors with one more, at the end, where it isn't among them
unfoldable pub with_actor : List Actor → Actor → List Actor
with_actor actors a = if list_any (is_same_actor a) actors then actors else actors ++ a ∷ []

-- the actors with the one that acts on a line, if one does
abbrev pub with_acting : List Actor → Content → List Actor
with_acting actors (Phase at) = actors
with_acting actors (Acts act) = with_actor actors act.actor
with_acting actors (Round losses) = actors

-- the actors, and behind them those of these lines in the order in which they first act
abbrev pub actors_from : List Actor → List SaidLine → List Actor
actors_from actors [] = actors
actors_from actors (said ∷ more) = actors_from (with_acting actors said.content) more

-- the actors of these lines, in the order in which they first act
abbrev pub actors_of : List SaidLine → List Actor
actors_of lines = actors_from [] lines

-- the number of an actor among the actors; they count from 1
unfoldable pub actor_number : List Actor → Actor → ℕ
actor_number actors a = position_or_len (is_same_actor a) actors + 1
