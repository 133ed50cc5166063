use Rattle.std.proofs.Common.{◌≡◌, take}
use Rattle.phase_actors.specs.Runs.{IsOneActor}
use Rattle.phase_actors.specs.Turns.{actor_standing, turns_in, Takes}
use Rattle.phase_actors.proofs.actor_state.ActorState.lines.Given as goal

abbrev pub invariant-loop-line : goal.invariant-loop-line
invariant-loop-line g l = record {
  keeps : g.P.Port.keeps l.initial.port l.port;
  number : g.P.Port.number l.port ≡ g.P.Port.number l.initial.port;
  taken : Takes l.by l.now (turns_in l.by (take l.line-index l.lines))
      (actor_standing l.initial.self (g.P.Port.view l.initial.port) l.initial.out.items)
      (actor_standing l.self (g.P.Port.view l.port) l.out.items);
  one : IsOneActor l.initial.self l.self;
}
