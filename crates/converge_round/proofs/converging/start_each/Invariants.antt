use Rattle.std.proofs.Common.{◌≡◌, take}
use Rattle.converge_round.specs.Callings.{AreOf}
use Rattle.converge_round.specs.Each.{Each}
use Rattle.converge_round.specs.Faults.{HasNoDoubt}
use Rattle.converge_round.specs.Phases.{IsClaimFor, ServesOne, course}
use Rattle.converge_round.specs.Reps.{names_of, IsRepIndex, KeepReps}
use Rattle.converge_round.specs.Sendings.{wire_at}
use Rattle.converge_round.proofs.converging.start_each.Given as goal

abbrev pub invariant-loop-answer : goal.invariant-loop-answer
invariant-loop-answer g l = record {
  index : IsRepIndex (names_of l.cells) l.index;
  keeps : g.P.Port.keeps l.initial.port l.port;
  number : g.P.Port.number l.port ≡ g.P.Port.number l.initial.port;
  own : AreOf (g.P.Port.number l.initial.port) (IsClaimFor l.now l.places l.places.roomy)
      (g.P.Port.view l.initial.port) (g.P.Port.view l.port);
  sure : HasNoDoubt (g.P.Port.view l.initial.port) (g.P.Port.view l.port);
  cells : KeepReps l.initial.cells l.cells;
  serves : Each (ServesOne (g.P.Port.number l.initial.port) l.now l.places) (take l.answer-index l.places.roomy)
      (course (g.P.Port.view l.initial.port) l.initial.tally l.initial.cells
      (wire_at (g.W.Wire.ends l.initial.wire) (g.W.Wire.losses l.initial.wire)))
      (course (g.P.Port.view l.port) l.tally l.cells (wire_at (g.W.Wire.ends l.wire) (g.W.Wire.losses l.wire)));
}
