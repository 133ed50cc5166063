use Rattle.std.proofs.Common.{◌≡◌, take}
use Rattle.auctioneer.specs.Stands.{jobs_of}
use Rattle.auctioneer.proofs.standing.jobs_of.Given as goal

abbrev pub invariant-loop-container : goal.invariant-loop-container
invariant-loop-container l = l.jobs ≡ jobs_of (take l.container-index l.containers)
