-- The scenarios that were worked out by hand print what they should: by computing.
use Rattle.std.proofs.Common.{refl}
use Rattle.std.specs.Fmt.{digits}
use Rattle.json.specs.Print.{escape_byte}
use Rattle.bbs_codec.specs.Command.{spelled}
use Rattle.wire_fields.specs.Field.{field_instance, field_name, field_number, field_optional_name}
use Rattle.run_function.specs.Worked.{AreWorkedOut}
use Rattle.run_function.specs.WorkedRounds.{EndedLease, SameDesire, ThreeInstances, ThreeInstancesWrite}
use Rattle.run_function.specs.WorkedClaims.{LostClaim, OneTask, Takeover}
use Rattle.run_function.specs.WorkedEvacuations.{Evacuation, NothingToMove}

same_desire-printed : SameDesire
unfolding escape_byte digits
same_desire-printed = refl

three_instances-printed : ThreeInstances
unfolding escape_byte digits
three_instances-printed = refl

ended_lease-printed : EndedLease
unfolding escape_byte digits
ended_lease-printed = refl

lost_claim-printed : LostClaim
unfolding escape_byte digits
lost_claim-printed = refl

takeover-printed : Takeover
unfolding escape_byte digits
takeover-printed = refl

one_task-printed : OneTask
unfolding escape_byte digits
one_task-printed = refl

nothing_to_move-printed : NothingToMove
unfolding escape_byte digits
nothing_to_move-printed = refl

evacuation-printed : Evacuation
unfolding escape_byte digits
evacuation-printed = refl

three_instances-written : ThreeInstancesWrite
unfolding spelled field_number field_name field_optional_name field_instance
three_instances-written = refl

pub worked_out : AreWorkedOut
worked_out = record {
  of_same_desire = same_desire-printed;
  of_three_instances = three_instances-printed;
  of_ended_lease = ended_lease-printed;
  of_lost_claim = lost_claim-printed;
  of_takeover = takeover-printed;
  of_one_task = one_task-printed;
  of_nothing_to_move = nothing_to_move-printed;
  of_evacuation = evacuation-printed;
  of_three_instances_write = three_instances-written;
}
