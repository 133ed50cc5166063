use Rattle.std.proofs.Common.{◌≡◌, map}
use Rattle.std.specs.List.{range_with_len}
use Rattle.phase_actors.specs.Runs.{IsOneActor}
use Rattle.phase_actors.specs.Turns.{actor_standing, turn_at, Takes}
use Rattle.phase_actors.proofs.actor_state.ActorState.line.Given as goal

abbrev pub invariant-loop-number : goal.invariant-loop-number
invariant-loop-number g l = record {
  keeps : g.P.Port.keeps l.initial.port l.port;
  number : g.P.Port.number l.port ≡ g.P.Port.number l.initial.port;
  taken : Takes (g.P.Port.number l.initial.port) l.now (map (turn_at l.line) (range_with_len 0 l.number))
      (actor_standing l.initial.self (g.P.Port.view l.initial.port) l.initial.out.items)
      (actor_standing l.self (g.P.Port.view l.port) l.out.items);
  one : IsOneActor l.initial.self l.self;
}
