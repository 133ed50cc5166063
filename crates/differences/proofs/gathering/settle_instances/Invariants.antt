use Rattle.differences.specs.Gathering.{AreInstancesSettled, GoesOn}
use Rattle.differences.proofs.gathering.settle_instances.Given as goal

abbrev pub invariant-loop-index : goal.invariant-loop-index
invariant-loop-index l = record {
  here : AreInstancesSettled l.rows l.places.entries l.desired.process l.index;
  goes_on : GoesOn l.rows l.initial.places.entries l.places.entries;
}
