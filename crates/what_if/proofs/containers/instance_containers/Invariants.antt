use Rattle.std.proofs.Common.{◌≡◌, ◌+◌, ◌++◌, drop}
use Rattle.what_if.specs.Sites.{instance_container, numbered}
use Rattle.what_if.proofs.containers.instance_containers.Given as goal

abbrev pub invariant-loop-instance : goal.invariant-loop-instance
invariant-loop-instance l = record {
  number : l.number ≡ l.instance-index;
  so_far : l.list ++ numbered instance_container (l.number + 1) (drop l.instance-index l.instances)
      ≡ numbered instance_container 1 l.instances;
}
