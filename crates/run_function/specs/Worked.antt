-- The scenarios that were worked out by hand.
use Rattle.run_function.specs.WorkedRounds.{EndedLease, SameDesire, ThreeInstances, ThreeInstancesWrite}
use Rattle.run_function.specs.WorkedClaims.{LostClaim, OneTask, Takeover}
use Rattle.run_function.specs.WorkedEvacuations.{Evacuation, NothingToMove}

-- of each the function prints what it should, and of one of them it writes what it should
pub record AreWorkedOut : Type 0 where
  pub of_same_desire : SameDesire
  pub of_three_instances : ThreeInstances
  pub of_ended_lease : EndedLease
  pub of_lost_claim : LostClaim
  pub of_takeover : Takeover
  pub of_one_task : OneTask
  pub of_nothing_to_move : NothingToMove
  pub of_evacuation : Evacuation
  pub of_three_instances_write : ThreeInstancesWrite
