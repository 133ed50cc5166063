use Rattle.std.proofs.Common.{◌≡◌, take}
use Rattle.scenario_player.specs.Actors.{starting_actors}
use Rattle.scenario_player.proofs.actors.actors_of.Given as goal

abbrev pub invariant-loop-actor : goal.invariant-loop-actor
invariant-loop-actor l = l.states.items ≡ starting_actors (take l.actor-index l.actors)
