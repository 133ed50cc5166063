-- Who acts in a scenario, as they begin.
use Rattle.std.specs.Prelude.{ℕ, Bool, true, false, List, map}
use Rattle.phase_actors.specs.declared.actor_state.ActorState.{ActorState}
use Rattle.phase_actors.specs.declared.actor_state.ActorState.TheVariants.{Client, Cell}
use Rattle.cell_rep.specs.Reps.{new_rep}
use Rattle.scenario_lines.specs.declared.actor.Actor.{Actor}

-- a client, or a cell that has not joined
abbrev pub new_actor : Bool → List ℕ → ActorState
new_actor false name = Client name
new_actor true name = Cell (new_rep name)

-- the actors as they begin, in the order of their numbers
abbrev pub starting_actors : List Actor → List ActorState
starting_actors actors = map (λ a. new_actor a.cell a.name) actors
