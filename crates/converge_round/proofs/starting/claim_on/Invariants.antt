use Rattle.std.proofs.Common.{◌≡◌, take}
use Rattle.converge_round.specs.Callings.{AreOf}
use Rattle.converge_round.specs.Faults.{HasNoDoubt}
use Rattle.converge_round.specs.Reps.{SameRep}
use Rattle.converge_round.specs.Sendings.{wire_at}
use Rattle.converge_round.specs.Starts.{AreFine, Claims, IsClaimOfOne, claiming}
use Rattle.converge_round.proofs.starting.claim_on.Given as goal

abbrev pub invariant-loop-job : goal.invariant-loop-job
invariant-loop-job g l = record {
  keeps : g.P.Port.keeps l.initial.port l.port;
  number : g.P.Port.number l.port ≡ g.P.Port.number l.initial.port;
  own : AreOf (g.P.Port.number l.initial.port) (IsClaimOfOne l.now l.initial.rep.cell l.jobs)
      (g.P.Port.view l.initial.port) (g.P.Port.view l.port);
  sure : HasNoDoubt (g.P.Port.view l.initial.port) (g.P.Port.view l.port);
  rep : SameRep l.initial.rep l.rep;
  claims : Claims (g.P.Port.number l.initial.port) l.now (take l.job-index l.jobs)
      (claiming l.initial.rep (g.P.Port.view l.initial.port)
      (wire_at (g.W.Wire.ends l.initial.wire) (g.W.Wire.losses l.initial.wire)))
      (claiming l.rep (g.P.Port.view l.port) (wire_at (g.W.Wire.ends l.wire) (g.W.Wire.losses l.wire))) l.ends;
  fine : AreFine l.ends;
}
