use Rattle.std.proofs.Common.{◌≡◌}
use Rattle.what_if.specs.Sites.{desired_instance, each_below}
use Rattle.what_if.proofs.wanting.desired_instances.Given as goal

abbrev pub invariant-loop-index : goal.invariant-loop-index
invariant-loop-index l = l.list ≡ each_below (desired_instance l.marked.dump.now l.row) l.index
