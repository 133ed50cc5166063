use Rattle.std.proofs.Common.{◌≡◌, ◌++◌, take, drop}
use Rattle.std.specs.Vec.Iter.{into_iter_items}
use Rattle.phase_runs.specs.Reps.{with_reps}
use Rattle.phase_runs.proofs.reps.put_reps.Given as goal

abbrev pub invariant-loop-index : goal.invariant-loop-index
invariant-loop-index l = record {
  whole : with_reps l.initial.actors (into_iter_items l.initial.reps) ≡ take l.index l.actors
      ++ with_reps (drop l.index l.initial.actors) (into_iter_items l.reps);
  same : drop l.index l.actors ≡ drop l.index l.initial.actors;
}
