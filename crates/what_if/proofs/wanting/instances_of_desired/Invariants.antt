use Rattle.std.proofs.Common.{◌≡◌, take}
use Rattle.std.specs.List.{flat_map}
use Rattle.what_if.specs.Sites.{desired_instance, each_below}
use Rattle.what_if.proofs.wanting.instances_of_desired.Given as goal

abbrev pub invariant-loop-row : goal.invariant-loop-row
invariant-loop-row l = l.list.items ≡ flat_map (λ r. each_below (desired_instance l.marked.dump.now r) r.instances)
    (take l.row-index l.row-items)
