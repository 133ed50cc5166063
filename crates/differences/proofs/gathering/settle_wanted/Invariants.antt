use Rattle.std.proofs.Common.{take}
use Rattle.differences.specs.Gathering.{AreWantedSettled, GoesOn}
use Rattle.differences.proofs.gathering.settle_wanted.Given as goal

abbrev pub invariant-loop-one : goal.invariant-loop-one
invariant-loop-one l = record {
  here : AreWantedSettled l.rows l.places.entries (take l.one-index l.desired);
  goes_on : GoesOn l.rows l.initial.places.entries l.places.entries;
}
