use Rattle.std.proofs.Common.{take}
use Rattle.differences.specs.Gathering.{AreRowsSettled, GoesOn}
use Rattle.differences.proofs.gathering.settle_rows.Given as goal

abbrev pub invariant-loop-row : goal.invariant-loop-row
invariant-loop-row l = record {
  here : AreRowsSettled l.rows l.places.entries (take l.row-index l.actual);
  goes_on : GoesOn l.rows l.initial.places.entries l.places.entries;
}
