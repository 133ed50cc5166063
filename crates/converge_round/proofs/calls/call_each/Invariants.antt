use Rattle.std.proofs.Common.{◌≡◌, take}
use Rattle.std.specs.List.{Contains}
use Rattle.converge_round.specs.Callings.{calling, IsNoted, AreOf}
use Rattle.converge_round.specs.Each.{Each}
use Rattle.converge_round.specs.Faults.{HasNoDoubt}
use Rattle.converge_round.proofs.calls.call_each.Given as goal

abbrev pub invariant-loop-command : goal.invariant-loop-command
invariant-loop-command g l = record {
  keeps : g.P.Port.keeps l.initial.port l.port;
  number : g.P.Port.number l.port ≡ g.P.Port.number l.initial.port;
  own : AreOf (g.P.Port.number l.initial.port) (Contains l.commands) (g.P.Port.view l.initial.port)
      (g.P.Port.view l.port);
  sure : HasNoDoubt (g.P.Port.view l.initial.port) (g.P.Port.view l.port);
  noted : Each (IsNoted (g.P.Port.number l.initial.port)) (take l.command-index l.commands)
      (calling (g.P.Port.view l.initial.port) l.initial.tally) (calling (g.P.Port.view l.port) l.tally);
}
