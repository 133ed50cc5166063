use Rattle.std.proofs.Common.{take, []}
use Rattle.converge_round.specs.Each.{Each}
use Rattle.converge_round.specs.Reps.{names_of, IsRepIndex, KeepReps}
use Rattle.converge_round.specs.Sendings.{wire_at}
use Rattle.converge_round.specs.Stops.{StopsOne, so_far, stops_at}
use Rattle.converge_round.proofs.stopping.stop_each.Given as goal

abbrev pub invariant-loop-stray : goal.invariant-loop-stray
invariant-loop-stray g l = record {
  index : IsRepIndex (names_of l.cells) l.index;
  cells : KeepReps l.initial.cells l.cells;
  stops : Each StopsOne (take l.stray-index l.strays)
      (so_far (stops_at (wire_at (g.W.Wire.ends l.initial.wire) (g.W.Wire.losses l.initial.wire)) l.initial.cells) [])
      (so_far (stops_at (wire_at (g.W.Wire.ends l.wire) (g.W.Wire.losses l.wire)) l.cells) l.stopped);
}
