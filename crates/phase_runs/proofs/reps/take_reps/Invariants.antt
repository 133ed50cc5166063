use Rattle.std.proofs.Common.{◌≡◌, ◌+◌, ◌-◌, ◌≤◌, ◌++◌, length, map, take, drop}
use Rattle.std.specs.Prelude.{vec_len, vec_capacity}
use Rattle.phase_runs.specs.Reps.{bare, reps_of}
use Rattle.phase_runs.proofs.reps.take_reps.Given as goal

abbrev pub invariant-loop-index : goal.invariant-loop-index
invariant-loop-index l = record {
  taken : l.reps.items ≡ reps_of (take l.index l.initial.actors);
  bared : l.actors ≡ map bare (take l.index l.initial.actors) ++ drop l.index l.initial.actors;
  room : vec_len l.reps + (length l.initial.actors - l.index) ≤ vec_capacity l.reps;
}
