use Rattle.std.proofs.Common.{◌≡◌, take}
use Rattle.headroom_tables.specs.Runs.{runs_of}
use Rattle.headroom_tables.proofs.runs.runs_of.Given as goal

abbrev pub invariant-loop-index : goal.invariant-loop-index
invariant-loop-index l =
    l.runs.items ≡ runs_of (take l.index-index l.indexes)
