-- The laws of the fields as sets, for searches.
use Rattle.wire_fields.proofs.Numbers.{IsField-u8, IsField-u16, IsField-u32, IsField-u64}
use Rattle.wire_fields.proofs.Names.{IsField-name, IsField-optional_name}
use Rattle.wire_fields.proofs.Truths.{IsField-truth}
use Rattle.wire_fields.proofs.Instances.{IsField-instance, IsField-optional_instance}
use Rattle.wire_fields.proofs.Lengths.{length-field_number, length-field_u8, length-field_u16, length-field_u32, length-field_u64, length-field_name, length-field_truth, length-field_instance, length-no_name, length-some_name, length-no_instance, length-some_instance, length-field_optional_name, length-field_optional_instance}

pub ruleset fields = (
  IsField-u8,
  IsField-u16,
  IsField-u32,
  IsField-u64,
  IsField-name,
  IsField-optional_name,
  IsField-truth,
  IsField-instance,
  IsField-optional_instance,
)

pub ruleset lengths = (
  length-field_u8,
  length-field_u16,
  length-field_u32,
  length-field_u64,
  length-field_name,
  length-field_truth,
  length-field_instance,
  length-no_name,
  length-some_name,
  length-no_instance,
  length-some_instance,
)

pub ruleset bounds = (length-field_number, length-field_optional_name, length-field_optional_instance)
