use Rattle.std.proofs.Common.{◌≡◌, None, take, find}
use Rattle.convergence.specs.Containers.{is_container_of}
use Rattle.convergence.proofs.holding.scan.Given as goal

abbrev pub invariant-loop-container : goal.invariant-loop-container
invariant-loop-container l = find (is_container_of l.job l.instance) (take l.container-index l.containers) ≡ None
